pub mod OneMessage
pub mod OneResponse
