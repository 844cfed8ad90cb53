pub mod Written
pub mod LeastIndex
pub mod PlanOf
pub mod Shifting
pub mod RowNodes
pub mod Planning
pub mod PlanLaws
