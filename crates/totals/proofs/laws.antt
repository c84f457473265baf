pub mod Raised
pub mod Wait
