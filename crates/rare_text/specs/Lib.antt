pub mod Samples
pub mod Problems
pub mod CommandParts
pub mod ProblemText
pub mod Stated
pub mod inner
