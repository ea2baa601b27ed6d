-- The paper's definitions.
pub mod States
pub mod Calls
-- Steps of the code, proved equal to them.
pub mod Parts
