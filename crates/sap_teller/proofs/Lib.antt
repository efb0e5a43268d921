mod Inverted
mod Does
mod Embeds
mod Headed
mod Found
mod Kept
mod Pieces
mod SaidPieces
mod Seconds
mod OneLine
mod ToldRuns
mod Plain
mod Noted
pub mod Acting
