pub mod Groups
pub mod Cut
pub mod Suits
pub mod Progress
pub mod Indices
pub mod Sorted
pub mod Ordinals
pub mod Ready
