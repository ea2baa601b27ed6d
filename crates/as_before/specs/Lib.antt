pub mod Overhang
pub mod AcceptedBefore
pub mod Chainage
pub mod Names
