pub mod RangeLaws
pub mod RuleLaws
pub mod OrderLaws
pub mod PlaceLaws
pub mod WalkLaws
pub mod LimitLaws
