pub mod Opening
pub mod Lists
pub mod Rules
pub mod Adding
pub mod Withdrawal
pub mod Reach
