pub mod BuilderLemmas
pub mod BlockLemmas
pub mod ByIdLemmas
pub mod CutLemmas
pub mod DistanceLaws
mod DistanceStates
pub mod LabelLaws
pub mod LabelRecords
pub mod LabelStates
pub mod LineCounts
mod NodeLists
pub mod PotentialsLemmas
pub mod SolutionLemmas
mod ValueLemmas
