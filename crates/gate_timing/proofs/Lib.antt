pub mod Apart
pub mod Dense
pub mod Drawn
