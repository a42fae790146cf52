pub mod Drawing
pub mod Hearing
pub mod Fractions
pub mod Plane
pub mod Airs
