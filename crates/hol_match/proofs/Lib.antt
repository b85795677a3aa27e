pub mod ApplyLemmas
pub mod MatchLemmas
pub mod TypeLemmas
pub mod OccurLemmas
