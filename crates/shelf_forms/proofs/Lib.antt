pub mod Texts
pub mod OneForm
