pub mod Parts
pub mod Declared
