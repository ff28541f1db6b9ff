pub mod Bytes
pub mod Played
pub mod Replay
pub mod Steps
pub mod FaultLines
pub mod Runs
pub mod Closes
pub mod OneReplay
