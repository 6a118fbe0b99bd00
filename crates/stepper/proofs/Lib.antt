pub mod Halving
pub mod Entering
pub mod Fuel
pub mod Stack
