pub mod Transcript
pub mod Calls
pub mod Holding
pub mod Playing
pub mod Entries
