mod CycleLemmas
mod OnlyLemmas
mod OppositeLemmas
mod WalkLemmas
