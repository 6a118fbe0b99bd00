pub mod Marks
pub mod Floors
pub mod Outcomes
pub mod Sends
