mod Passing
mod Scripts
mod TurnRecords
