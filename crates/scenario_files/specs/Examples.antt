pub mod KeyNames
pub mod ElevenLines
pub mod CarriageReturns
pub mod RestartShares
pub mod CallWords
