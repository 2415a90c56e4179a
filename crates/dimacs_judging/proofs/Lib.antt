pub mod Products
pub mod Sums
pub mod Duality
mod SameCost
pub mod Distances
pub mod RowLemmas
pub mod StepLemmas
pub mod SupportLemmas
pub mod Firsts
pub mod RowLists
pub mod Settling
pub mod Reasons
pub mod Passing
mod LabelsAtOnce
pub mod LabelsPassing
mod ArcChainLemmas
mod PlaceLemmas
mod EntryLemmas
pub mod Claims
pub mod BlockNumbers
pub mod QueriesPassing
pub mod PathsPassing
mod OnePass
pub mod MaxJudge
pub mod MinJudge
mod HubLemmas
pub mod LeastLemmas
mod CrossLemmas
mod BlockLemmas
pub mod InfeasibleJudge
mod ListedRows
pub mod FlowJudges
mod DistanceLemmas
mod NodeLabelLemmas
mod LeavingLemmas
