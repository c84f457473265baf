pub mod Time
pub mod Replay
pub mod ByHand
pub mod laws
