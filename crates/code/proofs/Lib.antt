pub mod Accepted
pub mod Windows
pub mod Filled
pub mod Blocks
pub mod Pairs
pub mod Permutation
pub mod Loading
pub mod Maps
