pub mod Reading
pub mod Comparing
pub mod Requests
pub mod Texts
