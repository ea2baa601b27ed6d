-- What it means that a float is exactly a whole number.
pub mod Whole
-- The paper's definitions.
pub mod Corners
-- What the call's struct says of them.
pub mod Reply
-- Steps of the code.
pub mod Steps
