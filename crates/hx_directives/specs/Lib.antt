pub mod Seconds
pub mod Arguments
pub mod Occurrences
pub mod Answers
pub mod Cases
