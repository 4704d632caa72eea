pub mod Choices
pub mod Wishes
pub mod Promises
pub mod LookAheads
pub mod Foresights
pub mod SearchWishes
pub mod Examples
