pub mod Replaying
pub mod Given
