pub mod Sameness
pub mod Texts
