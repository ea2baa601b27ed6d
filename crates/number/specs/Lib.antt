pub mod Number
pub mod Groups
pub mod Form
pub mod Word
