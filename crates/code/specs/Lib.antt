pub mod Numbers
pub mod Coding
pub mod Blocks
pub mod Sending
pub mod Mapping
pub mod Answers
pub mod Laws
