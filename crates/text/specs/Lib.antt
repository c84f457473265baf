pub mod Text
pub mod Read
pub mod Write
pub mod Lines
pub mod Run
pub mod Stream
pub mod laws
