mod SlotLemmas
pub mod Entries
pub mod MapLemmas
pub mod Nodes
pub mod SetLemmas
pub mod SkipLemmas
pub mod ArcLemmas
mod ArcOrderLemmas
mod CountLemmas
mod KeptLemmas
pub mod LinkLemmas
mod PigeonLemmas
