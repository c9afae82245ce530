pub mod OperatorWords
pub mod Plain
pub mod Applications
pub mod LiteralText
pub mod HeadText
pub mod AtomText
pub mod TermAnswers
pub mod inner
