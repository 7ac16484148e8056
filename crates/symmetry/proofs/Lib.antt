pub mod Exchanges
pub mod Symmetries
pub mod Vectors
