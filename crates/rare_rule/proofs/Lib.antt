pub mod BookLemmas
pub mod Walks
pub mod TypingLemmas
pub mod FormLemmas
mod RowTypings
mod RowForms
mod Refuting
mod TrivialRule
mod OutOfFormLemmas
mod ClassLemmas
