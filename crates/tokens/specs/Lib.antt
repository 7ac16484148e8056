pub mod Characters
pub mod Cursors
pub mod Phrases
