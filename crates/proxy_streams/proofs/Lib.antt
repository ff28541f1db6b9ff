mod Peering
mod Streaming
