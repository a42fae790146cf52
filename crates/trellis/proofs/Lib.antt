pub mod Bits
pub mod Survival
pub mod Start
pub mod Bounds
pub mod Places
pub mod Written
pub mod Columns
