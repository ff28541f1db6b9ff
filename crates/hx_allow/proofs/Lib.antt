pub mod FirstFaults
pub mod HostIndices
pub mod AddressTexts
pub mod Items
pub mod KeysListed
pub mod LineHosts
pub mod LinesRead
pub mod Readings
pub mod TablePaths
pub mod Versions
pub mod ViaPieces
pub mod ViaWritten
pub mod CookieLines
pub mod Secrets
pub mod Sessions
pub mod Loops
pub mod WordsRead
pub mod PathTails
pub mod Purging
mod PurgeOrders
mod ScopesTold
mod TagsNamed
pub mod LeastUnknown
pub mod Deciding
pub mod TomlTables
pub mod NeverReached
pub mod NamesRead
pub mod OneByOne
pub mod OneText
pub mod SortedNodes
pub mod SortedTexts
