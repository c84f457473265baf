pub mod Output
pub mod laws
pub mod Promises
pub mod Witness
