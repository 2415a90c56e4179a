pub mod Buffer
pub mod Decimals
pub mod OutputBuffers
pub mod Plain
