mod EndLemmas
mod HeldLemmas
mod LineLemmas
