pub mod Laws
pub mod Records
pub mod Contents
pub mod Writing
pub mod Promises
