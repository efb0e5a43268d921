pub mod FormulaSteps
pub mod Lists
pub mod Ends
pub mod Formulas
pub mod SoundFormulas
pub mod FormulaPlaces
pub mod AtomSteps
