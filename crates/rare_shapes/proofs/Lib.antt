pub mod Totals
pub mod Shapes
pub mod ApplyLemmas
pub mod TruthLemmas
pub mod WholeLemmas
pub mod WordLemmas
pub mod WordOperators
pub mod JoinLemmas
pub mod NumberLemmas
mod OperatorsStand
