pub mod RulePieces
pub mod Printable
pub mod PrintedRules
