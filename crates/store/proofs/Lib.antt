pub mod Lining
pub mod Stating
