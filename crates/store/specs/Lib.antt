pub mod Layout
pub mod Saved
pub mod Kept
pub mod Calls
pub mod History
pub mod laws
