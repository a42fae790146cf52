pub mod Pushed
pub mod Told
