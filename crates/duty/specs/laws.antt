pub mod Lit
pub mod Witness
