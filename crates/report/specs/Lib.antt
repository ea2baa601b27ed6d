pub mod Text
pub mod Digits
pub mod Printed
pub mod Writing
pub mod Printing
pub mod Input
