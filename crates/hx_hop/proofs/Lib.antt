pub mod Lines
pub mod Moments
pub mod Stripped
pub mod Dating
pub mod Forwards
pub mod SentLines
pub mod NamedLemmas
mod Kept
pub mod NoneNamed
pub mod Passed
