pub mod Setting
pub mod Reader
pub mod laws
pub mod Promises
