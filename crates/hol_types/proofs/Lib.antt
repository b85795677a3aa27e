pub mod ListLemmas
pub mod OnceLemmas
pub mod Places
pub mod TypeLemmas
pub mod MarkLemmas
pub mod KeepsLemmas
pub mod InstanceLemmas
pub mod TyEqLemmas
pub mod MatchLemmas
pub mod PairLemmas
pub mod DeepLemmas
mod TypeExamples
