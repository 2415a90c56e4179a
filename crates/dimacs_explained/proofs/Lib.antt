pub mod RetoldLemmas
