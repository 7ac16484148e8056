pub mod Lengths
pub mod Lists
pub mod Kept
pub mod Same
pub mod Reading
