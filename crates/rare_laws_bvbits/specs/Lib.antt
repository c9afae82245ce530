pub mod BvBitwiseRules
pub mod BvSliceRules
pub mod BvBitsTable
