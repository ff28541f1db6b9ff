pub mod HeadLines
pub mod KeptLines
pub mod LineBytes
pub mod LineParts
pub mod LineSteps
pub mod ReasonBytes
