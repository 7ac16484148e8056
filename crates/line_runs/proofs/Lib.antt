pub mod Lines
pub mod One
