-- the table, and who goes where
pub mod Table
pub mod Pairing
pub mod Paired
-- what the passes over a table and the planner compute
pub mod Owners
