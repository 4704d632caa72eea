pub mod ResultLines
pub mod ChildWords
