pub mod Split
pub mod Numbers
pub mod Telling
pub mod Cut
pub mod Single
pub mod Lined
