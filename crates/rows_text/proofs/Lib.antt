pub mod Counted
pub mod Low
pub mod Shown
pub mod Listed
