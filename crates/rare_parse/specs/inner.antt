pub mod SortReading
pub mod ParamReading
pub mod TermReading
pub mod WholeTests
pub mod Following
pub mod RuleReading
