pub mod Calls
pub mod Waiting
pub mod Tries
pub mod Moves
pub mod Steps
pub mod Opening
