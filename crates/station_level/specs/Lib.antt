-- The paper's definitions.
pub mod Level
-- Steps of the code.
pub mod Nearest
