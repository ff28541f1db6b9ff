pub mod FurtherLemmas
pub mod MarkLemmas
pub mod OnceLemmas
pub mod ValueLemmas
pub mod FewNames
