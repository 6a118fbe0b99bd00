pub mod Parts
pub mod Requests
pub mod Readers
pub mod Rows
pub mod Outputs
pub mod Tables
pub mod Cases
pub mod Laws
