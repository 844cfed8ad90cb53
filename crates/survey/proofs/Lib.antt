pub mod Same
pub mod Owned
pub mod Looked
pub mod InOrder
pub mod Gathered
pub mod Surveyed
