pub mod Steps
pub mod Survivors
pub mod Choice
pub mod Bounds
pub mod Best
pub mod Marks
