pub mod PartSteps
pub mod AtSamples
pub mod SortsKept
pub mod Growing
pub mod Holding
pub mod CommandSteps
pub mod CommandForms
pub mod Problems
