pub mod Laws
pub mod Kinds
pub mod Drives
