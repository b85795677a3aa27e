pub mod Applying
pub mod Inst
pub mod Instance
pub mod Matching
