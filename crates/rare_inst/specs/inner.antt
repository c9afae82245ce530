pub mod Standing
pub mod RuleTrees
pub mod Sites
pub mod Making
pub mod TestRules
pub mod Ready
