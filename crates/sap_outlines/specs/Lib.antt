pub mod ChannelFacts
pub mod Templates
pub mod Places
pub mod Outlines
