pub mod Grammar
pub mod Faults
pub mod Reading
pub mod KeptStatements
pub mod PrintedLines
pub mod StatementTokens
pub mod Examples
