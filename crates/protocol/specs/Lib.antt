pub mod Selection
pub mod Write
pub mod Put
pub mod Read
pub mod Stop
pub mod Signals
