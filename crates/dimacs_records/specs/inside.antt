pub mod Driver
pub mod FieldReader
pub mod Plain
