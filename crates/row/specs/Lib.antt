pub mod Wait
pub mod Row
pub mod Records
