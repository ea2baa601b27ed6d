pub mod NearestLaws
pub mod LevelLaws
