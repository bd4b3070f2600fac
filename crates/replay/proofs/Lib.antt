mod Turns
mod Again
mod Deposits
