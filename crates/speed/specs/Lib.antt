pub mod Measuring
pub mod Values
pub mod Times
pub mod Tables
pub mod Asking
