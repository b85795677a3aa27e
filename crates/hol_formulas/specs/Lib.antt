pub mod Constants
pub mod Formulas
pub mod Found
pub mod FoundTypes
