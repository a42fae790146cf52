pub mod Columns
pub mod Bands
pub mod Lists
