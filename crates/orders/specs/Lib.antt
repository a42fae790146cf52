pub mod Words
pub mod Settings
pub mod Orders
pub mod Slips
pub mod Texts
