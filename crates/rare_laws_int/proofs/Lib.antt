mod IntForms
mod IntTypes
mod WholeFacts
mod IntLaws
pub mod IntHolds
