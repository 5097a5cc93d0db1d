pub mod Marks
pub mod Pool
pub mod Cells
pub mod Names
pub mod Owned
pub mod Lending
pub mod Writing
pub mod Nodes
