pub mod Hosts
pub mod Numbers
pub mod Promises
