pub mod Approach
pub mod Panel
pub mod Steps
