mod LastLemmas
mod SameRule
