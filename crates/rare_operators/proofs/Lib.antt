pub mod WordLemmas
pub mod LiteralSteps
pub mod SymbolLemmas
pub mod IndexSteps
