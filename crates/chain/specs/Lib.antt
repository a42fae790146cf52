pub mod Obeying
pub mod Copies
pub mod Texts
