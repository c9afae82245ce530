pub mod CoreParams
pub mod CoreRules
pub mod CoreTable
