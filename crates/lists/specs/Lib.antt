pub mod Lists
pub mod Pairs
pub mod Spread
pub mod Counting
