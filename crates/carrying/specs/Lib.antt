-- what it is to carry out a list of moves, and what is promised of it among all plans
pub mod Carrying
-- the list as it is computed
pub mod Order
pub mod Samples
