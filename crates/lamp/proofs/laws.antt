-- How the theorems of `Promises` and the contracts of `src/` are shown.
pub mod Cycle
pub mod Count
pub mod Drift
pub mod Shared
