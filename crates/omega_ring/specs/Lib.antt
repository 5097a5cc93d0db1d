pub mod Views
pub mod Range
pub mod Steps
pub mod Powers
pub mod Lanes
pub mod LaneSteps
