pub mod Answers
pub mod Plans
pub mod Slips
pub mod inside
