pub mod World
pub mod Main
pub mod Replay
