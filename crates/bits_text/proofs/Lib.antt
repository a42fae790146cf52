pub mod Pushed
pub mod Lines
pub mod Shown
pub mod Standing
