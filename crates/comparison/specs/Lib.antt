pub mod Comparing
pub mod Report
pub mod Laws
