pub mod Divisors
pub mod Facts
