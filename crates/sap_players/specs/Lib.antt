pub mod Casts
pub mod Numbers
pub mod NumberExamples
