pub mod Places
pub mod SortReading
pub mod Pieces
