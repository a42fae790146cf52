mod Counted
mod Tried
mod Turns
pub mod Requests
pub mod Plotted
pub mod Rated
