pub mod ExitCodes
pub mod FileFaults
pub mod RuleNames
pub mod RefusalLines
pub mod SaidTexts
pub mod ScenarioTask
pub mod Readings
pub mod Refusals
