pub mod Growing
pub mod Commands
pub mod Texts
pub mod Scopes
