pub mod Naming
pub mod TermSteps
