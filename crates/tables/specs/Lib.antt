pub mod Sums
pub mod Wirings
pub mod Agreement
pub mod Above
pub mod Carry
pub mod Equivalence
pub mod RowCheck
pub mod Making
