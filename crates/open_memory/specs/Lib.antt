-- The paper's definitions.
pub mod Memory
-- Steps of the code, proved equal to them.
pub mod Steps
