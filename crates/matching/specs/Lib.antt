pub mod Struck
pub mod Search
pub mod Begun
pub mod Sharing
pub mod Exchange
pub mod Fitting
