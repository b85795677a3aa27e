pub mod States
pub mod DerivedForms
pub mod Instances
pub mod Under
pub mod Duals
pub mod Quantified
