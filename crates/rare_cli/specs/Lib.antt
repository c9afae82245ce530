pub mod WordForms
pub mod Outcomes
pub mod Calls
pub mod Causes
pub mod Statuses
pub mod inner
