pub mod Taking
pub mod Answering
pub mod Written
pub mod Receiving
