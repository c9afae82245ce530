mod Growing
mod ReducedLemmas
mod MakeLemmas
mod TestLemmas
