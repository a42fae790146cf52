pub mod Texts
pub mod Readings
pub mod Blocks
pub mod Laws
pub mod Strays
