pub mod PeerCalls
pub mod Peers
pub mod Resets
pub mod Silence
