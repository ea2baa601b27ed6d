pub mod HazardLaws
