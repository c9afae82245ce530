pub mod OperatorTexts
pub mod TermPrinting
pub mod inner
