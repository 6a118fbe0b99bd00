pub mod Levels
pub mod Supplied
pub mod Joins
pub mod Tested
