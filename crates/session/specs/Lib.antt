pub mod Held
pub mod Sessions
pub mod Obeying
pub mod Said
