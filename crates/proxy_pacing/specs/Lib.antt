pub mod MomentOrder
pub mod Queues
pub mod RestBytes
