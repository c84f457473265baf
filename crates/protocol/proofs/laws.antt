pub mod WellFormed
pub mod Effective
pub mod Kind
