pub mod Jobs
pub mod OneRequest
pub mod Outcomes
pub mod Version
