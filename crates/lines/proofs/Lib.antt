pub mod Digits
pub mod Fielded
pub mod Parsed
pub mod Written
pub mod Keeping
pub mod Unique
pub mod Nexts
pub mod Following
