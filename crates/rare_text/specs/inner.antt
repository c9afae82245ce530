pub mod SampleValues
pub mod Standing
