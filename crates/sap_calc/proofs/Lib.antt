mod Numbered
mod Sounds
mod First
mod Moves
mod Evaluable
mod Lines
mod Stores
mod Goes
mod Further
mod Compares
mod Sends
mod Writes
mod HeadLines
mod Learns
mod Makes
mod Channels
mod Embeds
mod Inputs
pub mod Meets
mod Replays
pub mod Senders
mod Replaced
mod Standing
