-- The entries of a list one after another, under the greatest common divisor of those before.
use Rattle.std.proofs.Common.{◌≡◌, ℕ, zero, suc, ◌+◌, ◌*◌, ◌<◌, ◌≤◌, ◌^◌, ℤ, pos, ◌-ℤ◌, ◌*ℤ◌, ◌≤ℤ◌, ◌<ℤ◌, unsigned_abs, map, length, slice_index_or, List, [], ◌∷◌, refl, sym, subst, arith, ◌⊎◌, ⊎_elim, inl, inr}
use Rattle.std.proofs.lemmas.Int.{ints}
use Rattle.std.proofs.lemmas.Nat.{mul-lt}
use Rattle.std.proofs.lemmas.Bool.{cases_lt}
use borrow.Author.Differences.{below_in}
use Rattle.state_model.specs.Coefficient.{Coefficient, weight, zero_coefficient}
use Rattle.state_model.specs.CoefficientList.{at}
use Rattle.state_model.specs.Divisors.{Divides, IsBalanced, norm}
use Rattle.state_model.specs.Quotients.{IsAssociate, IsGreatest}
use Rattle.omega_ring.specs.Steps.{IsReady}
use Rattle.omega_ring.specs.Views.{omega_value}
use Rattle.omega_ring.specs.declared.coefficients.Omega.{Omega}
use Rattle.state_model.proofs.Domain.{square_abs}
use Rattle.state_model.proofs.Euclid.{divides_trans, divides_zero}
use Rattle.state_model.proofs.Inequalities.{doubled, order, square_not_negative}
use Rattle.state_model.proofs.Units.{x_not_negative}

abbrev pub zero_omega : Omega
zero_omega = record { a = pos 0; b = pos 0; c = pos 0; d = pos 0 }

pub at_map : (xs : List Omega) (i : ℕ) → at (map omega_value xs) i ≡ omega_value (slice_index_or xs i zero_omega)
at_map [] i = refl
at_map (x ∷ xs) zero = refl
at_map (x ∷ xs) (suc i) = at_map xs i

pub at_past : (xs : List Omega) (i : ℕ) → length xs ≤ i → at (map omega_value xs) i ≡ zero_coefficient
at_past [] i h = refl
at_past (x ∷ xs) zero h = absurd (omega arith)
at_past (x ∷ xs) (suc i) h = at_past xs i (omega arith)

pub zero_ready : IsReady zero_coefficient
zero_ready = record { balanced = record { high = omega (arith, order); low = omega (arith, order) }; small = below_in (norm zero_coefficient) (pos (2 ^ 122)) (omega arith) }

-- the norm of an entry
pub norm_bound : (x y : ℤ) → pos 0 ≤ℤ x → x <ℤ pos (2 ^ 61) → (x *ℤ x -ℤ pos 2 *ℤ (y *ℤ y)) <ℤ pos (2 ^ 122)
norm_bound x y h k =
    let e = square_abs x in
    let f = square_not_negative y in
    let g = doubled (y *ℤ y) in
    let n : unsigned_abs x < 2 ^ 61 = omega (arith, ints) in
    let m : unsigned_abs x * unsigned_abs x < 2 ^ 61 * 2 ^ 61 = mul-lt (unsigned_abs x) (unsigned_abs x) (2 ^ 61) (2 ^ 61) n n in
    omega (arith, order)

pub entry_ready : (z b : Coefficient) → (weight z).x <ℤ pos (2 ^ 61) → IsBalanced (weight b) → norm b ≡ norm z → IsReady b
entry_ready z b h k e = record { balanced = k; small = subst (λ (n : ℤ). n <ℤ pos (2 ^ 122)) (sym e) (norm_bound (weight z).x (weight z).y (x_not_negative z) h) }

pub greatest_entry : (c b z g : Coefficient) → IsGreatest c b g → IsAssociate b z → IsGreatest c z g
greatest_entry c b z g k a = record { left = k.left; right = divides_trans g b z k.right (a.0); greatest = λ h p q. k.greatest h p (divides_trans h z b q (a.1)) }

pub greatest_turned : (b c g : Coefficient) → IsGreatest b c g → IsGreatest c b g
greatest_turned b c g k = record { left = k.right; right = k.left; greatest = λ h p q. k.greatest h q p }

-- ---- the loop
pub divides_more : (xs : List Omega) (n : ℕ) (c g : Coefficient) → ((i : ℕ) → i < n → Divides c (at (map omega_value xs) i)) → IsGreatest c (omega_value (slice_index_or xs n zero_omega)) g → (i : ℕ) → i < n + 1 → Divides g (at (map omega_value xs) i)
divides_more xs n c g h k i l = ⊎_elim (λ p. divides_trans g c (at (map omega_value xs) i) k.left (h i p)) (λ e. subst (λ (j : ℕ). Divides g (at (map omega_value xs) j)) e (subst (Divides g) (sym (at_map xs n)) k.right)) (below_or_at i n l)
  where
    below_or_at : (i n : ℕ) → i < n + 1 → (i < n) ⊎ (n ≡ i)
    below_or_at i n l = ⊎_elim (λ p. inl p) (λ p. inr (omega arith)) (cases_lt i n)

pub greatest_more : (xs : List Omega) (n : ℕ) (c g : Coefficient) → ((h : Coefficient) → ((i : ℕ) → i < n → Divides h (at (map omega_value xs) i)) → Divides h c) → IsGreatest c (omega_value (slice_index_or xs n zero_omega)) g → (h : Coefficient) → ((i : ℕ) → i < n + 1 → Divides h (at (map omega_value xs) i)) → Divides h g
greatest_more xs n c g f k h d = k.greatest h (f h (λ i l. d i (omega arith))) (subst (Divides h) (at_map xs n) (d n (omega arith)))

pub divides_whole : (xs : List Omega) (n : ℕ) (c : Coefficient) → length xs ≤ n → ((i : ℕ) → i < n → Divides c (at (map omega_value xs) i)) → (i : ℕ) → Divides c (at (map omega_value xs) i)
divides_whole xs n c l h i = ⊎_elim (λ p. h i p) (λ p. subst (Divides c) (sym (at_past xs i (omega arith))) (divides_zero c)) (cases_lt i n)

pub wider : (z : Coefficient) → (weight z).x <ℤ pos (2 ^ 61) → (weight z).x <ℤ pos (2 ^ 64)
wider z h = go (weight z).x h
  where
    go : (x : ℤ) → x <ℤ pos (2 ^ 61) → x <ℤ pos (2 ^ 64)
    go x h = omega (arith, order)
