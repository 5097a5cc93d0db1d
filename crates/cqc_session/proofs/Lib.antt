pub mod Programs
pub mod Parts
pub mod Going
pub mod Serves
pub mod Solos
pub mod Steps
