pub mod Options
pub mod SamenessLemmas
pub mod SortingLemmas
pub mod SortLawLemmas
pub mod NeedsLemmas
mod WithinLemmas
pub mod RulingLemmas
pub mod SortOfLemmas
pub mod GrowthLemmas
pub mod ShallowLemmas
pub mod BasicLemmas
pub mod SortOfLaw
mod DerivedEquality
