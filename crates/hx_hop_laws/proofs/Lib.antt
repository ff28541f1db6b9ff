pub mod Values
pub mod ReadRequests
pub mod ReadTargets
pub mod SentRequests
pub mod DateValues
pub mod SentResponses
