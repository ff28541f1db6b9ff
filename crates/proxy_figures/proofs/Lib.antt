mod LinePlaces
mod OriginLemmas
mod Places
