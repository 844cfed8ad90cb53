-- the calls with a line, what each does, what the functions' answers stand for, and what the inner functions ask and give
pub mod Call
pub mod Step
pub mod Value
pub mod Inner
-- what is promised of every call on every table and line
pub mod Demand
pub mod Pages
-- worked examples
pub mod Examples
