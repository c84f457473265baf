pub mod Alike
pub mod Late
pub mod Passed
pub mod Time
pub mod Timed
pub mod Waits
