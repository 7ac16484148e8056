pub mod Requests
pub mod Texts
pub mod Standard
