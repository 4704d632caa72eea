-- What is learnt, worked on small limits.
pub mod LearningTable
