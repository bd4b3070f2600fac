mod Laws
mod Searches
