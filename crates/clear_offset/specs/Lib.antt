-- The paper's definitions.
pub mod Offset
-- What the code asks for on the way.
pub mod Steps
