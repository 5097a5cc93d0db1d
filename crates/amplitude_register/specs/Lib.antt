pub mod Multiples
pub mod States
pub mod Held
pub mod RowWeights
pub mod Mixed
