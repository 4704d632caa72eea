pub mod Spaces
pub mod BrokenRules
pub mod Settings
