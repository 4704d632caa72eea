pub mod RuleLemmas
pub mod BelongsLemmas
pub mod SpaceSizes
mod Counts
mod Ranks
mod ActiveParams
mod SettledConfigs
pub mod Soundness
mod ParamMarks
mod NameTests
mod MetConditions
mod RankedConditions
mod Checks
mod SettledValues
mod ActiveValues
mod SettingTexts
pub mod SameSpaces
