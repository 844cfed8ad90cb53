-- the layout of given counts, and what the theorems say of it
pub mod Layout
pub mod Set
pub mod Change
pub mod Leaving
pub mod Starred
-- how a program keeps counts and layouts
pub mod Counts
pub mod Runs
pub mod Rows
pub mod Climb
