pub mod Effects
pub mod ScriptLines
pub mod DecimalNumbers
pub mod Happenings
pub mod Script
