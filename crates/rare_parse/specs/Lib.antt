pub mod RuleNames
pub mod RuleSortText
pub mod ParamText
pub mod RuleTermText
pub mod RuleText
pub mod inner
