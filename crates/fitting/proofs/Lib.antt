pub mod Pruned
pub mod Sparing
