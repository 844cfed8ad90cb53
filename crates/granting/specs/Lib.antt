-- what the inner functions of a request ask and give
pub mod Inner
