pub mod Messages
pub mod Samples
