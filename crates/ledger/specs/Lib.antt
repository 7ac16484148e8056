pub mod Refused
pub mod Ledger
pub mod Questions
pub mod Law
pub mod Fixed
