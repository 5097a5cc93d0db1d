pub mod SeatLemmas
pub mod Glue
