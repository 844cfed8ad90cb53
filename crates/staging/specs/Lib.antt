-- movers that wait for one another, and the plans by which they can go
pub mod Graph
-- the plan that is chosen, as it is computed
pub mod Choice
-- a mover as the program has it
pub mod Mover
