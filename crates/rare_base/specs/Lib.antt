pub mod Answers
pub mod Outside
pub mod Memory
pub mod MemoryTexts
pub mod Reads
