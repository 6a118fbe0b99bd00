pub mod Reading
pub mod Ranges
pub mod Raising
