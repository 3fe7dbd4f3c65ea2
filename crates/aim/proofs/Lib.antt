mod ObeyLemmas
mod SettleLemmas
mod WordLemmas
