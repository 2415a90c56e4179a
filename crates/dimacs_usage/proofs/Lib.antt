mod FileLemmas
mod SlipLemmas
mod StopLemmas
