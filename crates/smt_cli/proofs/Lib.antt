pub mod RunLemmas
pub mod TextLemmas
pub mod AnswerLemmas
pub mod CheckLemmas
pub mod WordLemmas
pub mod LambdaLemmas
