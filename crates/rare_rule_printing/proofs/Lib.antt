pub mod ParamNumbers
pub mod Steps
pub mod SortTexts
pub mod TermTexts
pub mod ParamTexts
pub mod RuleTexts
pub mod PrintedForms
