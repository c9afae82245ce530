pub mod ArrayParams
pub mod ArrayRules
pub mod ArrayTable
