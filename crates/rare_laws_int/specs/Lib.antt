pub mod IntParams
pub mod IntRules
pub mod IntTable
