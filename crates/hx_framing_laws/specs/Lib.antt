pub mod Characters
pub mod Lines
pub mod Heads
pub mod Judged
pub mod Examples
