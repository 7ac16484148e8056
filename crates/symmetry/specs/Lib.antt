pub mod Symmetry
pub mod Writing
pub mod Published
