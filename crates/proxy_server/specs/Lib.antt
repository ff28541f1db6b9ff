pub mod FaultTexts
pub mod Forgetting
pub mod Losses
pub mod OpenRequests
pub mod OriginsOfLines
pub mod Paces
pub mod ServerState
pub mod Serving
