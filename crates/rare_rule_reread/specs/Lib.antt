pub mod Spelled
pub mod RereadParts
pub mod RereadRules
