-- the movers of a call by tenant number, and the list of their moves
pub mod Moving
pub mod Sorting
pub mod Listed
pub mod Ordered
-- carrying out over pages, and the graph
pub mod Lists
pub mod Runs
pub mod Meeting
pub mod Indices
pub mod Standing
pub mod FromPages
pub mod ToPages
pub mod Lowest
pub mod Arriving
pub mod Spelling
pub mod Workable
-- what the functions need
pub mod LeafNumbers
pub mod Pushing
pub mod Waiting
pub mod Ordering
pub mod Samples
