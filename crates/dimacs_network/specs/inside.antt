pub mod Slots
pub mod ArcOrder
pub mod Sets
