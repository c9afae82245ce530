mod BvArithForms
mod BvArithTypes
mod BvArithLaws
pub mod BvArithHolds
