mod ArcReadingLemmas
mod BlockLemmas
mod ColumnLemmas
mod FillLemmas
