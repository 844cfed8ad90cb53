-- what a survey finds
pub mod Survey
-- the nodes of a layout that have an owner
pub mod Owned
