pub mod Known
pub mod Peers
pub mod Lines
pub mod Service
pub mod Transcripts
