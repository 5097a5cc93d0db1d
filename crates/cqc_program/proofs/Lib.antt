pub mod Rounds
pub mod Walks
pub mod Sizes
