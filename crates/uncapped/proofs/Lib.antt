mod Ties
mod Domination
pub mod KnownCosts
