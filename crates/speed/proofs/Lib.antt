pub mod Asked
pub mod Tabled
