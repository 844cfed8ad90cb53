-- what becomes of a journal
pub mod Conversion
-- and what holds of it
pub mod Promises
