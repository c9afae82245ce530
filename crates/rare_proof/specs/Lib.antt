pub mod Items
pub mod Steps
pub mod Words
pub mod Sided
pub mod Proofs
pub mod RulesHold
pub mod StepLaws
pub mod inner
