pub mod Descriptors
pub mod Exits
pub mod Memory
pub mod TableFiles
