pub mod Judging
pub mod Progress
pub mod Truth
pub mod Kept
