pub mod Start
pub mod laws
pub mod Promises
