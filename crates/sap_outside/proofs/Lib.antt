pub mod Held
pub mod PutPieces
pub mod Requests
pub mod Noted
pub mod RunFed
pub mod RunAnswered
pub mod CallsTried
pub mod Rests
