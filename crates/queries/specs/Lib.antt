-- The paper's definitions.
pub mod Quantity
pub mod Ranges
pub mod Lookup
pub mod Place
-- Steps of the code, proved equal to them.
pub mod Walk
pub mod Visits
pub mod Sums
