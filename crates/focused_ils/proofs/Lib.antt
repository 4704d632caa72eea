mod MapLemmas
mod Decisions
mod LastTurns
