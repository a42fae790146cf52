pub mod Meaning
pub mod Questions
pub mod Shifts
pub mod Meanings
pub mod Bounds
