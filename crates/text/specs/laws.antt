pub mod Decimal
pub mod Read
pub mod Write
pub mod Lines
pub mod Run
pub mod Log
pub mod Stream
