pub mod Node
pub mod Settings
