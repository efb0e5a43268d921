pub mod Rows
pub mod ChartText
pub mod Chart
pub mod Titles
pub mod ChartLaws
pub mod WellFormed
pub mod ChartExamples
pub mod code
