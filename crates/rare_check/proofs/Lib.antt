pub mod Listing
pub mod Growing
pub mod Naming
pub mod Judgements
pub mod Advancing
pub mod Soundness
pub mod Answering
pub mod Holding
mod Stepping
pub mod Starting
