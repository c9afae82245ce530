mod BvBitwiseForms
mod BvBitwiseTypes
mod BvBitwiseLaws
mod BvSliceForms
mod BvSliceTypes
mod BvSliceLaws
pub mod BvBitsHolds
