pub mod Lens
pub mod Signals
pub mod laws
