-- Wishes, worked on small searches.
pub mod Searches
pub mod LookingAhead
