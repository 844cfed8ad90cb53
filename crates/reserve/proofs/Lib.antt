pub mod Reports
pub mod Behind
pub mod NodePages
pub mod Look
pub mod LevelOfPages
