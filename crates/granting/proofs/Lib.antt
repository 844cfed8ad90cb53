pub mod Behind
pub mod Admitting
pub mod Running
