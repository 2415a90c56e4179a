pub mod Blocks
pub mod Cycles
pub mod Facts
pub mod Walks
pub mod inside
