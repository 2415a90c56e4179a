pub mod Commands
pub mod Judgings
pub mod Making
pub mod Outcomes
pub mod Reports
