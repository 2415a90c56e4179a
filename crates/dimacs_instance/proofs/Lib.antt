pub mod GraphLemmas
mod MaxCountLemmas
mod MaxLemmas
pub mod MaxTextLemmas
mod MinCountLemmas
mod MinLemmas
mod MinSupplies
pub mod MinTextLemmas
pub mod QueriesLemmas
mod SummaryLemmas
mod SupplyLemmas
