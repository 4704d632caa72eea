pub mod FoundTickets
mod Rooms
pub mod Ranges
pub mod SameCells
pub mod Numbered
pub mod LiveTickets
pub mod Replayed
pub mod MarkedTickets
pub mod SameTickets
pub mod SameItself
pub mod JournalRuns
pub mod AgreeingBoards
pub mod GivenTickets
pub mod AskedTickets
pub mod AbortedBoards
pub mod SummedReplies
pub mod RecordedRuns
pub mod RisingBoards
pub mod RepliedAsks
pub mod DueTickets
pub mod ShownEntries
pub mod TruthfulBoards
pub mod RangedBoards
pub mod KeptParts
pub mod KeptBoards
pub mod ToldEntries
pub mod KeptKnowledge
mod SameProblems
