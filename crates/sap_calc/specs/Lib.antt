pub mod Running
pub mod Replays
pub mod ThreadHeads
pub mod code
