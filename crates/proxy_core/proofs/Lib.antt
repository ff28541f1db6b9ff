pub mod Held
pub mod Leaving
pub mod Stepping
pub mod Storable
pub mod Tracing
pub mod ExchangeLists
pub mod Arrivals
pub mod UnsafeRequests
pub mod UnsafeAnswers
pub mod Moves
pub mod TwiceForward
pub mod HeldEntries
pub mod ExpiredEntries
pub mod SentBeside
pub mod StepKinds
pub mod Beginning
pub mod HeldLaw
pub mod Marks
pub mod Unsent
pub mod OpenLaws
pub mod Counting
pub mod Carries
pub mod InOrder
pub mod FirstRules
pub mod Leads
pub mod LedOn
mod LedIndex
pub mod Awaits
pub mod Beside
pub mod InVain
pub mod Openings
pub mod SendLaws
pub mod SentResponses
pub mod Uncached
pub mod StoringWords
pub mod Freshened
pub mod SinceItWent
pub mod StoredAnswers
pub mod Headlines
pub mod OneOutcome
pub mod Purged
pub mod Expiring
pub mod Told
pub mod ToldSteps
mod PurgesExpire
mod PurgeSteps
mod Refusals
pub mod Driven
pub mod Waits
mod WaitsUntil
mod NextLeaders
pub mod Overdue
pub mod Indexed
pub mod Waiters
pub mod Releases
pub mod KeyIndices
mod FirstOf
pub mod AskedArrivals
pub mod Overtaking
pub mod OverdueArrivals
pub mod AddedLines
pub mod Crowds
mod Cutting
pub mod HeldWithin
pub mod Restarts
pub mod ConditionsKept
pub mod Cookies
pub mod HiddenTags
pub mod PurgedTags
pub mod RangeReplies
pub mod AnswerParts
pub mod FilledRanges
