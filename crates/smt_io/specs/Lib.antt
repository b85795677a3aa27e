pub mod Faults
pub mod Written
pub mod MemFiles
pub mod MemSink
