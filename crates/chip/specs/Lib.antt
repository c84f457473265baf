pub mod Kinds
pub mod Registers
pub mod Addresses
pub mod Control
pub mod Values
pub mod laws
pub mod Promises
