-- the line and its numbers, when they are in order, and what calls do to them
pub mod Line
pub mod Order
pub mod Changes
pub mod Samples
