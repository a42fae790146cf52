pub mod Scrambling
pub mod Transmission
pub mod Answers
pub mod Laws
pub mod Senders
