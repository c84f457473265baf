pub mod Registers
pub mod Control
pub mod Addresses
pub mod Kinds
