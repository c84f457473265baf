pub mod Only
pub mod Step
pub mod Values
pub mod Run
pub mod Added
pub mod Messages
pub mod Entries
