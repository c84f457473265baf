pub mod Layout
pub mod Only
pub mod Judged
