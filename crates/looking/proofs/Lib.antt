mod Doing
mod Gatherings
mod Learnings
mod Rounds
mod Searches
mod Showings
mod Wholes
