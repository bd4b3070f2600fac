pub mod Replays
pub mod Follows
pub mod Safe
