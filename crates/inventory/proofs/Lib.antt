pub mod Choosing
pub mod Fronts
pub mod Labels
pub mod Measuring
pub mod Places
pub mod Proposing
pub mod Scans
pub mod Writes
