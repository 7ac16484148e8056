pub mod Rows
pub mod Members
pub mod Times
pub mod Pairs
pub mod Running
pub mod Ways
pub mod Permuted
