-- the calls, what each answers and leaves, and what an accepted one does
pub mod Call
pub mod Step
pub mod Value
pub mod Accepted
pub mod Pages
-- histories, and what holds after any two
pub mod History
pub mod Demand
