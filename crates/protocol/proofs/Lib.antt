pub mod laws
pub mod Promises
pub mod Guarantees
