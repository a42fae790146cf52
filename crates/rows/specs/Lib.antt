pub mod Ratios
pub mod Interleavers
pub mod Patterns
pub mod Masks
pub mod Table
pub mod Rows
pub mod Schemes
