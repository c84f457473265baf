pub mod Bits
pub mod First
pub mod Tabulate
pub mod Below
pub mod Parts
pub mod Divisors
pub mod laws
