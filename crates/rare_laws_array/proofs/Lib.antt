mod ArraySorts
mod ArrayForms
mod ArrayTypes
mod ArrayLaws
pub mod ArrayHolds
