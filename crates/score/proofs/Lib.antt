pub mod Laws
pub mod Sources
pub mod BlockLaws
pub mod Gatherings
pub mod TrueSums
pub mod SumsBelow
pub mod Covered
pub mod Turns
