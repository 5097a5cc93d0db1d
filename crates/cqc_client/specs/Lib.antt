pub mod Drill
pub mod Tally
pub mod Replies
pub mod Stops
pub mod Talk
