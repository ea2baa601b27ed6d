pub mod TestLaws
pub mod OrderLaws
pub mod AnswerLaws
pub mod ListLaws
pub mod StoredLaws
pub mod LeastLaws
