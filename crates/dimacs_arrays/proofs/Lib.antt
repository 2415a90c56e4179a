pub mod AnswerLemmas
mod ByNodeLemmas
mod CertifyLemmas
mod CertifyPathsLemmas
mod DistanceLemmas
mod GraphLemmas
mod InfeasibleLemmas
mod LabelLemmas
mod LentLemmas
pub mod LimitLemmas
mod MaxLemmas
mod MinLemmas
mod OrderLemmas
pub mod PathsOverLemmas
mod PredLemmas
mod LabelDistanceLemmas
mod TightPredecessorLemmas
mod SinkLemmas
mod SolveLemmas
mod SpelledLemmas
mod SolutionLemmas
