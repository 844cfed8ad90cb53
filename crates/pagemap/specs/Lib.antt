-- the map, drawing it, and its count
pub mod Map
pub mod Draw
pub mod Count
-- how the program draws: a flag for each page
pub mod Flags
-- how it counts: 64 bits at a time
pub mod Numbers
