mod FieldLemmas
mod FormLemmas
mod BlockForm
pub mod FirstLemmas
mod PlaceLemmas
mod LineLemmas
mod DriverLemmas
pub mod ConditionLemmas
mod SpellLaws
mod ShapeLaws
pub mod SplitLemmas
mod FaultLaws
mod FirstLaws
mod CleanLines
mod PlainLines
mod DecimalLemmas
mod PlainForms
mod PlainRecords
mod HeldLines
pub mod CanonicalLaws
pub mod ReadLaws
pub mod FitLaws
pub mod WrittenLemmas
pub mod CountLemmas
pub mod NameLemmas
pub mod ZeroLemmas
pub mod TakenLines
pub mod OrderLemmas
