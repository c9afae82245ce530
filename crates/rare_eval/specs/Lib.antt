pub mod Evaluation
pub mod ValueItems
pub mod Limited
pub mod EvaluationLaws
pub mod ValueTerms
pub mod inner
