pub mod RowTerms
pub mod RowRules
pub mod RuleTables
pub mod BvParams
