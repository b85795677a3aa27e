pub mod RefutationLemmas
pub mod FinishLemmas
