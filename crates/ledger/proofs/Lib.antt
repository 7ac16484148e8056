pub mod Standing
pub mod Dues
pub mod After
mod Orders
pub mod Serving
pub mod Questions
pub mod One
pub mod Rights
