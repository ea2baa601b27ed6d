pub mod OverhangLaws
pub mod FiveByteLaws
pub mod AcceptedLaws
pub mod ChainageLaws
pub mod NamesLaws
