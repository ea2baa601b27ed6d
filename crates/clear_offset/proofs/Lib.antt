pub mod LengthLaws
pub mod SearchLaws
pub mod OffsetLaws
