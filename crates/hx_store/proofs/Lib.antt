pub mod EntryLists
pub mod FoundSerials
pub mod PassingEntries
pub mod Recency
pub mod RecencyOrder
pub mod WeightedRecency
pub mod Fronts
pub mod EntryWeights
mod CountedWeights
pub mod ShedEntries
mod KeyedEntries
mod Indices
mod MarkLists
mod IndexedLists
mod MatchLists
pub mod ExpiredEntries
mod ExpiredMarks
