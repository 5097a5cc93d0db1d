-- What putting bytes into a room did.
use Rattle.std.specs.Prelude.{◌≡◌, ℕ, ◌+◌, ◌<◌, ◌≤◌, List, ◌++◌, length, take, drop}
use Rattle.cqc_wire.specs.declared.messages.NoRoom.{NoRoom}

-- bytes stand at a place, behind what stood in front of it, and what is behind their end stays
pub record WasPut (old new : List ℕ) (at : ℕ) (piece : List ℕ) (end : ℕ) : Type 0 where
  pub place : end ≡ at + length piece
  pub bytes : take end new ≡ take at old ++ piece
  pub behind : (n : ℕ) → end ≤ n → drop n new ≡ drop n old
  pub same : length new ≡ length old

-- bytes stand in front of a room that has place for them, and what is behind them stays
pub record StandsInFront (text old new : List ℕ) (end : ℕ) : Type 0 where
  pub fits : length text ≤ length old
  pub size : end ≡ length text
  pub bytes : take end new ≡ text
  pub behind : drop end new ≡ drop end old

-- the room has too few places for bytes, and stays
pub record HasNoRoom (text old new : List ℕ) (e : NoRoom) : Type 0 where
  pub short : length old < length text
  pub need : e.need ≡ length text
  pub stays : new ≡ old
