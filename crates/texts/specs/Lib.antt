pub mod Pins
pub mod Copying
