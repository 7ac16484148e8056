pub mod Sheets
pub mod Lines
