-- What contracts of `src/` say besides the definitions of the rules.
pub mod Count
pub mod Group
pub mod Shared
