pub mod SeatLends
pub mod Seats
pub mod SeatsLends
pub mod Held
pub mod HeldLends
pub mod HeldLaws
