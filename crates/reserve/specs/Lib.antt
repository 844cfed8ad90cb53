pub mod Door
pub mod Values
pub mod Records
pub mod NodePages
pub mod Look
pub mod LevelOfPages
