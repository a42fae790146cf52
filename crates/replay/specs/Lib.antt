pub mod Ledger
pub mod Heard
pub mod Promise
pub mod Given
