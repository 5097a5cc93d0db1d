-- The difference that is compared, as the code computes it.
use Rattle.std.proofs.Common.{◌≡◌, ℕ, ◌*◌, ◌-◌, ◌≤◌, ◌<◌, ◌^◌, ℤ, pos, ◌-ℤ◌, ◌*ℤ◌, unsigned_abs, to_z, of_z, Bool, true, false, IsTrue, refl, ◌∙◌, arith}
use Rattle.std.proofs.lemmas.Int.{ints, unsigned_abs-mul}
use Rattle.std.proofs.lemmas.Nat.{mul-le}
use mir.Syntax.{w128}
use Rattle.omega_ring.proofs.Stored.{back_of}

product_size : (k : ℕ) (m : ℤ) → k ≤ 2 ^ 64 → unsigned_abs m < 2 ^ 61 → unsigned_abs (pos k *ℤ m) < 2 ^ 125
product_size k m h l = rw (unsigned_abs-mul (pos k) m) (let p : k * unsigned_abs m ≤ 2 ^ 64 * (2 ^ 61 - 1) = mul-le k (unsigned_abs m) (2 ^ 64) (2 ^ 61 - 1) h (omega arith) in omega arith)

difference_size : (p q : ℤ) → unsigned_abs p < 2 ^ 125 → unsigned_abs q < 2 ^ 125 → unsigned_abs (p -ℤ q) < 2 ^ 126
difference_size p q h k = omega (arith, ints)

word_back : (w : ℕ) → w < 2 ^ 64 → to_z w128 w ≡ pos w
word_back w h = omega (arith, ints)

pub stored_lead : (w : ℕ) (m n : ℤ) → w < 2 ^ 64 → unsigned_abs m < 2 ^ 61 → unsigned_abs n < 2 ^ 61
    → to_z w128 (of_z w128 (to_z w128 (of_z w128 (pos (2 ^ 64) *ℤ to_z w128 (of_z w128 m))) -ℤ to_z w128 (of_z w128 (to_z w128 w *ℤ to_z w128 (of_z w128 n))))) ≡ pos (2 ^ 64) *ℤ m -ℤ pos w *ℤ n
stored_lead w m n h k l =
    let p = product_size (2 ^ 64) m (omega arith) k in
    let q = product_size w n (omega arith) l in
    rw (back_of m (omega (arith, k)), back_of n (omega (arith, l)), word_back w h, back_of (pos (2 ^ 64) *ℤ m) (omega (arith, p)), back_of (pos w *ℤ n) (omega (arith, q)))
    (back_of (pos (2 ^ 64) *ℤ m -ℤ pos w *ℤ n) (omega (arith, difference_size (pos (2 ^ 64) *ℤ m) (pos w *ℤ n) p q)))

pub lead_size : (w : ℕ) (m n : ℤ) → w < 2 ^ 64 → unsigned_abs m < 2 ^ 61 → unsigned_abs n < 2 ^ 61 → unsigned_abs (pos (2 ^ 64) *ℤ m -ℤ pos w *ℤ n) < 2 ^ 126
lead_size w m n h k l = difference_size (pos (2 ^ 64) *ℤ m) (pos w *ℤ n) (product_size (2 ^ 64) m (omega arith) k) (product_size w n (omega arith) l)

pub other_than_true : (b : Bool) → (IsTrue b → ⊥) → false ≡ b
other_than_true true h = absurd (h refl)
other_than_true false h = refl

-- the coordinate as its bits are read
pub read_lead : (w : ℕ) (m n r : ℤ) → unsigned_abs m < 2 ^ 61 → unsigned_abs n < 2 ^ 61 → unsigned_abs r < 2 ^ 126
    → r ≡ pos (2 ^ 64) *ℤ to_z w128 (of_z w128 m) -ℤ pos w *ℤ to_z w128 (of_z w128 n) → to_z w128 (of_z w128 r) ≡ pos (2 ^ 64) *ℤ m -ℤ pos w *ℤ n
read_lead w m n r h k l e = back_of r (omega (arith, l)) ∙ e ∙ rw (back_of m (omega (arith, h)), back_of n (omega (arith, k)))
