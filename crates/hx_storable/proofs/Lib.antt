pub mod Joined
pub mod LeastRule
pub mod LineLemmas
pub mod StorableLemmas
pub mod WordLemmas
pub mod TableLemmas
