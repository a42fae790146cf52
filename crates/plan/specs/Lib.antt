pub mod Scheme
pub mod Questions
pub mod Parts
pub mod Faults
pub mod Sentences
pub mod Plans
