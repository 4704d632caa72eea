mod ValueRanges
mod FileRanges
mod WordRanges
mod ScenarioRanges
mod KeyCounts
mod WordPairs
mod LineTexts
