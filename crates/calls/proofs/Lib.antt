pub mod Carried
pub mod Changed
pub mod Changing
pub mod Calling
pub mod Entries
