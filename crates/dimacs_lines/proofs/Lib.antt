pub mod PutLemmas
mod TextLemmas
mod PieceLemmas
mod ReaderLemmas
pub mod NumberLemmas
mod FieldLemmas
pub mod DigitLemmas
mod FieldLaw
mod DecimalLemmas
mod Lanes
mod Marks
mod EndMarks
mod Pairs
mod PlaceSums
pub mod PageLemmas
pub mod PlainLemmas
