pub mod Setting
pub mod Chips
pub mod Reader
pub mod Whole
