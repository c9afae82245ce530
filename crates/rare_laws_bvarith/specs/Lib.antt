pub mod BvArithRules
pub mod BvArithTable
