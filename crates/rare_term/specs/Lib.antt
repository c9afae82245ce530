pub mod State
pub mod Limits
pub mod Literals
pub mod Refusals
pub mod Lawful
pub mod inner
