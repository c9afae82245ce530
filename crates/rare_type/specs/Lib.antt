pub mod FirstCase
pub mod TypeAnswers
pub mod TypingLaws
pub mod inner
