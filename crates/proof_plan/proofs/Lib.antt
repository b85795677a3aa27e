pub mod AcceptLemmas
pub mod PlanLemmas
pub mod ReplayLemmas
pub mod HypothesisLemmas
pub mod ContextLemmas
pub mod SizeLemmas
