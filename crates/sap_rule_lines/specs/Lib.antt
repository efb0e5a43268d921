pub mod RuleLines
pub mod Least
