pub mod Totals
pub mod Wait
pub mod laws
