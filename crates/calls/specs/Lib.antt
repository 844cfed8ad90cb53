-- what the inner functions ask and give
pub mod Changes
