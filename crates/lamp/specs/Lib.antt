pub mod Window
pub mod Duration
pub mod Driver
pub mod Blinker
pub mod Duty
pub mod laws
