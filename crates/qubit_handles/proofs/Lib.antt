pub mod Firsts
pub mod HandleLemmas
pub mod LeastLemmas
