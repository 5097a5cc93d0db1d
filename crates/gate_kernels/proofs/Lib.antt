pub mod Made
pub mod Matrices
mod TwoSteps
