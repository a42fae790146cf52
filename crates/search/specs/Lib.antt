pub mod Searching
pub mod Stepping
pub mod Looking
pub mod Choosing
