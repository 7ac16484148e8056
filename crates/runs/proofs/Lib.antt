pub mod Changes
pub mod Starting
pub mod Questions
pub mod Steps
pub mod Stock
mod Contents
pub mod Stretches
pub mod Turns
pub mod Entries
mod CallLists
