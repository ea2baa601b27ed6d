pub mod Job
pub mod Hazards
pub mod Reply
pub mod Writing
pub mod Fits
pub mod Rows
pub mod Usual
