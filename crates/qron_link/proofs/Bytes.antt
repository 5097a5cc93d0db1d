-- Bytes that go from the front of a list to the front of a room.
use Rattle.std.proofs.Common.{◌≡◌, ℕ, ◌+◌, ◌-◌, ◌≤◌, List, ◌++◌, length, take, drop, arith, sym, ◌∙◌, ap, length-drop, length-append, refl}
use Rattle.std.proofs.lemmas.List.{take_at, take-append-drop, drop-drop, length-take-le, take_rest}

-- n bytes from a place on were copied
pub record Copied (bytes list copied : List ℕ) (place n : ℕ) : Type 0 where
  pub same : list ≡ bytes
  pub fits : place + n ≤ length bytes
  pub is : copied ≡ take n (take (length list - place) (drop place list))

copied_is : (bytes list copied : List ℕ) (place n : ℕ) → Copied bytes list copied place n → copied ≡ take n (drop place bytes)
copied_is bytes list copied place n h = h.is ∙ (rw (h.same, take_rest bytes place) refl)

copied_size : (bytes list copied : List ℕ) (place n : ℕ) → Copied bytes list copied place n → length copied ≡ n
copied_size bytes list copied place n h =
    let long : n ≤ length (drop place bytes) = omega (arith, length-drop place bytes, h.fits) in
    ap length (copied_is bytes list copied place n h) ∙ length-take-le n (drop place bytes) long

-- they fit
pub front_fits : (bytes list copied room : List ℕ) (place n : ℕ) → Copied bytes list copied place n → n ≤ length (copied ++ drop n room)
front_fits bytes list copied room place n h = omega (arith, length-append copied (drop n room), copied_size bytes list copied place n h)

-- they and what is left are what was left
pub front_and_rest : (bytes list copied room : List ℕ) (place n : ℕ) → Copied bytes list copied place n
    → drop place bytes ≡ take n (copied ++ drop n room) ++ drop (place + n) bytes
front_and_rest bytes list copied room place n h =
    let size = copied_size bytes list copied place n h in
    let is = copied_is bytes list copied place n h in
    let back : take n (drop place bytes) ++ drop n (drop place bytes) ≡ drop place bytes = take-append-drop n (drop place bytes) in
    rw (take_at copied (drop n room) n size, is, ← drop-drop n place bytes) (sym back)
