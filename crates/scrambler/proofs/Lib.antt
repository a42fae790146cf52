pub mod Reaching
pub mod Shifting
pub mod Polynomial
pub mod Periods
