pub mod Refusals
pub mod Reasons
pub mod laws
