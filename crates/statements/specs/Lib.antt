pub mod Numbers
pub mod Turning
pub mod Operations
pub mod Fetching
pub mod Asking
pub mod Creating
pub mod Passing
