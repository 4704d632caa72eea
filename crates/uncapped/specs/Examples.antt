-- The procedure, worked on small tables.
pub mod Tables
pub mod DueCutoffs
pub mod DefaultSettings
pub mod BasicComparisons
pub mod FocusedComparisons
pub mod ListsAndDraws
