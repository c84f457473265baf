pub mod Output
pub mod Wait
pub mod WellFormed
