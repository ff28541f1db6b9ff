pub mod Carrying
pub mod Speaking
pub mod Telling
pub mod Writing
