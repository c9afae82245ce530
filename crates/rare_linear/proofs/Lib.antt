pub mod Products
pub mod NormalForms
pub mod Names
pub mod LinearLemmas
pub mod Unique
pub mod EntailmentTestLemmas
pub mod LawLemmas
mod Merging
mod Substituting
mod Covering
mod Entailing
mod Sameness
