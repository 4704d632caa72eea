pub mod EntryLines
pub mod FieldBytes
pub mod RunLog
