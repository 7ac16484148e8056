pub mod Law
pub mod Writing
pub mod Values
pub mod Counted
pub mod Eithers
pub mod Literature
