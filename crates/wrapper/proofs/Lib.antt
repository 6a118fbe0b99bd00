mod Calls
pub mod Every
mod Masks
