pub mod Hearing
pub mod Looks
pub mod Runs
