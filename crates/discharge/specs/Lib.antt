pub mod Negation
pub mod ProvedValue
