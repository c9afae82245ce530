pub mod ReadsAs
pub mod SpellingLaws
pub mod Readable
pub mod Widths
pub mod Reread
pub mod Terms
pub mod inner
