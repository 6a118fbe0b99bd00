pub mod Lines
pub mod Places
pub mod Oldest
pub mod Parts
pub mod Order
