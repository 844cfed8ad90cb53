-- histories and their books, and what is promised of one box and of two
pub mod History
pub mod Demand
pub mod Passed
pub mod Examples
