pub mod Parities
pub mod Eights
pub mod Rows
pub mod Passes
pub mod Closing
pub mod Finding
pub mod Leading
pub mod Rooms
