pub mod FileLemmas
pub mod JudgingLemmas
pub mod PlanLemmas
mod NameLemmas
mod WritingLemmas
pub mod ReportLemmas
pub mod SolvingLemmas
pub mod CertifyingLemmas
pub mod TextLemmas
mod TrueClaims
mod FixedPoint
mod InMemoryLemmas
pub mod MakingLemmas
pub mod SpreadLemmas
mod LabelCounts
pub mod SolutionTexts
mod JudgedYes
