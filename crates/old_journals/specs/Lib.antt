-- the rules that an old journal was written under
pub mod Former
-- what its listing ends with, and what its conversion is answered
pub mod Promises
