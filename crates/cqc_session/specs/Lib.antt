pub mod Body
pub mod Session
pub mod Parts
pub mod State
pub mod Serving
pub mod Solo
pub mod SoloLaws
