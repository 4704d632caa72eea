mod AnswerLines
pub mod TakenParts
