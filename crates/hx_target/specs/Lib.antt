pub mod Hosts
pub mod Paths
pub mod Judgement
pub mod Keys
pub mod Examples
pub mod KeyOrder
pub mod KeyHash
pub mod FaultTexts
