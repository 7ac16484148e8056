pub mod Passing
pub mod Cutting
pub mod Talking
pub mod Composing
pub mod Opened
pub mod Breaking
