pub mod Views
pub mod Values
pub mod Calls
pub mod Receivers
pub mod Laws
