pub mod WriteLaws
pub mod ByteLaws
pub mod ScanLaws
pub mod ReadLaws
pub mod PlaceLaws
pub mod GroupWalk
pub mod WordLaws
pub mod FormLaws
