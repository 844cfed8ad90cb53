pub mod Booleans
pub mod Bits
pub mod Highest
pub mod Sums
pub mod Running
pub mod Searching
pub mod Best
pub mod Steps
