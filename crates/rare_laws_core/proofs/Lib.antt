mod CoreForms
mod CoreTypes
mod CoreLaws
pub mod CoreHolds
