pub mod LivesOfAServer
pub mod MessagesOfAServer
pub mod OneThing
pub mod PlaysOfARecord
