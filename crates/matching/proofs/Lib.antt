pub mod Rows
pub mod Striking
pub mod Shared
pub mod Unlike
pub mod Covering
pub mod Choosing
