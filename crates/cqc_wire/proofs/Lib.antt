pub mod CommandLists
pub mod Counting
pub mod ReadBack
pub mod Rooms
