pub mod ActsOfATurn
pub mod Dialogue
pub mod ToldOfATurn
pub mod WritesOfATurn
