pub mod Body
pub mod Room
