pub mod Events
pub mod Samples
