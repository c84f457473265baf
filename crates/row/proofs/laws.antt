pub mod Refitted
pub mod Row
pub mod Wait
