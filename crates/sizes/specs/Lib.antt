-- the level that a number of pages takes, and the same in document 02's words
pub mod Level
pub mod Promise
