pub mod Inserted
pub mod Others
pub mod Drafts
pub mod Worked
pub mod KeptWeights
