pub mod Values
pub mod Scale
pub mod Kinds
pub mod Blocks
pub mod Sums
pub mod Gathered
pub mod Tallies
