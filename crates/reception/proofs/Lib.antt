pub mod Taken
pub mod Received
