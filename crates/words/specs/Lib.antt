-- what programs say
pub mod Reason
pub mod Message
pub mod Writing
pub mod File
-- what a word of the command line means
pub mod Word
-- both as the manual has them
pub mod Samples
