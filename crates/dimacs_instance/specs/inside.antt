pub mod MaxReading
pub mod MinReading
pub mod QueriesReading
