pub mod Marks
pub mod Ends
pub mod Answered
