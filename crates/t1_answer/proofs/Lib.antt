pub mod AnswerLemmas
pub mod ChosenLines
pub mod RunLaws
pub mod TraceLemmas
