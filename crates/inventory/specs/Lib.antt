pub mod Slots
pub mod Stocking
pub mod Fitting
