pub mod Operators
pub mod Totals
pub mod RuleShapes
pub mod ShapeLaws
pub mod TheOperators
