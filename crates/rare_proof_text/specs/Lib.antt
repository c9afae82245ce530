pub mod ArgumentText
pub mod ProofCommands
pub mod ProofText
pub mod Commands
pub mod inner
