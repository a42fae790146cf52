pub mod Called
pub mod Tabled
pub mod Looked
pub mod Answered
