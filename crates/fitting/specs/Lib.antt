pub mod Pruning
pub mod Fits
