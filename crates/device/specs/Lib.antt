pub mod Fields
pub mod Reset
pub mod Registers
pub mod Wait
pub mod Output
pub mod Start
pub mod WellFormed
pub mod laws
