pub mod Choice
pub mod Answer
pub mod Stored
pub mod Least
