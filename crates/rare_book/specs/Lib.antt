pub mod RuleFile
pub mod inner
