pub mod Arcs
pub mod BlockFilled
pub mod Columns
pub mod Filling
