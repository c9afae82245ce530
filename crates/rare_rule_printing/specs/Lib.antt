pub mod ConstraintPrinting
pub mod SortPrinting
pub mod RulePrinting
pub mod inner
