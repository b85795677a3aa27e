pub mod FindLemmas
pub mod WrittenLemmas
