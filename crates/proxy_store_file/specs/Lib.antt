pub mod Fits
pub mod HeadStops
pub mod Heads
pub mod Parts
pub mod Stores
pub mod Streams
pub mod Texts
pub mod Writing
