pub mod ClientConditions
pub mod Lines
pub mod Tags
pub mod Replaced
pub mod Echoes
pub mod IdentifiedLemmas
pub mod Rooms
pub mod RangeLemmas
