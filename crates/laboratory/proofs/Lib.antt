pub mod FirstLine
pub mod Lines
pub mod Listed
pub mod Located
pub mod Sent
pub mod Tabled
pub mod TextSent
pub mod Worded
