pub mod Readings
pub mod Routes
