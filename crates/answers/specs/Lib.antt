pub mod Telling
pub mod Spelling
