pub mod Recorded
pub mod RecordedTurns
pub mod Records
