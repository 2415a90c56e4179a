mod ArgumentLemmas
mod VerbLemmas
mod RequestLemmas
mod OneRequest
