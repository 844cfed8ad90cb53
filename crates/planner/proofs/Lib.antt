pub mod ByValue
pub mod Moves
