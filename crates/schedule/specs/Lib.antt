-- The paper's definitions.
pub mod Schedule
pub mod Plan
pub mod Planned
-- Steps of the code.
pub mod Writing
