pub mod Answers
pub mod ClaimedFlows
pub mod PredecessorsOf
pub mod Lent
pub mod MinCertified
pub mod LabelDistances
pub mod TightPredecessors
pub mod PathsSpelled
