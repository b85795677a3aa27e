pub mod Hyps
pub mod Known
pub mod KernelState
pub mod RuleForms
pub mod Marks
