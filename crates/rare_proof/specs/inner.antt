pub mod Compared
pub mod Numbered
pub mod TestRules
