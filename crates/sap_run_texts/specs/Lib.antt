pub mod RunTexts
pub mod ShortTexts
pub mod RunPrinted
pub mod RunReading
pub mod Writable
pub mod code
