mod Closings
mod Dropping
