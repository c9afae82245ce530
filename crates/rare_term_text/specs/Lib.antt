pub mod TermText
pub mod inner
