-- The paper's definitions.
pub mod Level
pub mod RunList
pub mod Count
pub mod Required
-- What the builder is given and gives.
pub mod Keys
pub mod Stored
-- Steps of the code.
pub mod Breaks
pub mod Sweep
pub mod Steps
pub mod Sorted
