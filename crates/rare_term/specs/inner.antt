pub mod Nodes
pub mod Kept
pub mod KeptFacts
pub mod Prepared
pub mod TreeLaws
pub mod Keeping
pub mod KeptLaws
pub mod Ready
