mod AddedRuns
mod KeptSteps
mod Turns
pub mod PresentWishes
mod NeededPlaces
mod ChosenWishes
mod FoundRuns
pub mod WishFacts
