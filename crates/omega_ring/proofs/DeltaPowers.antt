-- Units times powers of 1 - w are the coefficients whose norm is a power of 2, so all their divisors are such too.
use Rattle.std.proofs.Common.{◌≡◌, ℕ, suc, zero, ◌+◌, ◌*◌, ◌/◌, ◌%◌, ◌==◌, ◌≤◌, ◌<◌, ◌^◌, ℤ, pos, ◌≤ℤ◌, nat_abs, List, IsTrue, ◌↔◌, refl, sym, ap, ◌∙◌, arith, ⊎_elim}
use borrow.Author.Differences.{ints}
use lib.Count.{ones_step}
use Rattle.std.proofs.lemmas.Bool.{cases_eq}
use Rattle.std.proofs.lemmas.Int.{unsigned_abs-mul}
use Rattle.std.proofs.lemmas.Nat.{ones_le_self, zero_from_ones}
use Rattle.std.specs.Int.RustNames.{count_ones}
use Rattle.state_model.specs.Coefficient.{Coefficient, one_coefficient}
use Rattle.state_model.specs.CoefficientList.{DividesAll, HasDeltaDivisors}
use Rattle.state_model.specs.Divisors.{Divides, norm, delta, delta_power, IsDeltaPower}
use Rattle.state_model.proofs.Booleans.{eq_of, eq_true}
use Rattle.state_model.proofs.Norms.{norm-⊗, norm_not_negative}
use Rattle.state_model.proofs.Reduced.{delta_power_of}

unit_norm : (u : Coefficient) → Divides u one_coefficient → nat_abs (norm u) ≡ 1
unit_norm u (q, e) = one (nat_abs (norm q)) (nat_abs (norm u)) (ap (λ (t : Coefficient). nat_abs (norm t)) e ∙ ap nat_abs (norm-⊗ q u) ∙ unsigned_abs-mul (norm q) (norm u))
  where
    one : (m n : ℕ) → 1 ≡ m * n → n ≡ 1
    one zero n e = absurd (omega arith)
    one (suc m) zero e = absurd (omega arith)
    one (suc m) (suc zero) e = refl
    one (suc m) (suc (suc n)) e = absurd (omega arith)

power_norm : (k : ℕ) → nat_abs (norm (delta_power k)) ≡ 2 ^ k
power_norm zero = refl
power_norm (suc k) = ap nat_abs (norm-⊗ (delta_power k) delta) ∙ unsigned_abs-mul (norm (delta_power k)) (norm delta) ∙ ap (λ (t : ℕ). t * 2) (power_norm k) ∙ twice k
  where
    twice : (k : ℕ) → 2 ^ k * 2 ≡ 2 ^ suc k
    twice k = omega arith

-- ---- the norm tells
whole : (n : ℤ) (m : ℕ) → pos 0 ≤ℤ n → nat_abs n ≡ m → n ≡ pos m
whole n m h e = omega (arith, ints)

pub norm_of_power : (u : Coefficient) → IsDeltaPower u → (k : ℕ) × (norm u ≡ pos (2 ^ k))
norm_of_power u p = (p.power, whole (norm u) (2 ^ p.power) (norm_not_negative u) (ap (λ (t : Coefficient). nat_abs (norm t)) p.value ∙ ap nat_abs (norm-⊗ p.factor (delta_power p.power)) ∙ unsigned_abs-mul (norm p.factor) (norm (delta_power p.power)) ∙ ap (λ (t : ℕ). t * nat_abs (norm (delta_power p.power))) (unit_norm p.factor p.is_unit) ∙ ap (λ (t : ℕ). 1 * t) (power_norm p.power) ∙ same (2 ^ p.power)))
  where
    same : (n : ℕ) → 1 * n ≡ n
    same n = omega arith

pub power_of_norm : (u : Coefficient) (n k : ℕ) → pos n ≡ norm u → n ≡ 2 ^ k → IsDeltaPower u
power_of_norm u n k f e = delta_power_of k 1 u (same (nat_abs (norm u)) ∙ ap nat_abs (sym f) ∙ e)
  where
    same : (n : ℕ) → n * 1 ≡ n
    same n = omega arith

-- ---- divisors
pub divisor_of_power : (u g : Coefficient) → IsDeltaPower g → Divides u g → IsDeltaPower u
divisor_of_power u g p (q, e) =
    let n : (k : ℕ) × (norm g ≡ pos (2 ^ k)) = norm_of_power g p in
    delta_power_of (n.0) (nat_abs (norm q)) u (swap (nat_abs (norm u)) (nat_abs (norm q)) ∙ sym (unsigned_abs-mul (norm q) (norm u)) ∙ sym (ap nat_abs (norm-⊗ q u)) ∙ sym (ap (λ (t : Coefficient). nat_abs (norm t)) e) ∙ ap nat_abs (n.1))
  where
    swap : (m n : ℕ) → m * n ≡ n * m
    swap m n = omega arith

-- a list all of whose common divisors divide such a one
pub delta_divisors : (vs : List Coefficient) (g : Coefficient) → IsDeltaPower g → ((u : Coefficient) → DividesAll u vs → Divides u g) → HasDeltaDivisors vs
delta_divisors vs g p h u d = divisor_of_power u g p (h u d)

-- ---- one bit is set exactly in the powers of 2
one_bit : (d n : ℕ) → n ≤ d → count_ones n ≡ 1 → (k : ℕ) × (n ≡ 2 ^ k)
one_bit zero n h e = absurd (omega (arith, ones_le_self n))
one_bit (suc d) n h e =
    let s = ones_step n in
    ⊎_elim
    (λ p. let r : (k : ℕ) × (n / 2 ≡ 2 ^ k) = one_bit d (n / 2) (omega arith) (omega arith) in (suc (r.0), doubled n (r.0) p (r.1)))
    (λ p. let half : n / 2 ≡ 0 = zero_from_ones (n / 2) (omega arith) in (0, omega arith))
    (cases_eq (n % 2) 0)
  where
    doubled : (n k : ℕ) → n % 2 ≡ 0 → n / 2 ≡ 2 ^ k → n ≡ 2 ^ suc k
    doubled n k p e = omega arith

none : (n : ℕ) → n ≡ 0 → 0 < n → ⊥
none n e h = omega arith

sole : (n : ℕ) → n ≤ 1 → (n ≡ 0 → ⊥) → n ≡ 1
sole zero h f = absurd (f refl)
sole (suc zero) h f = refl
sole (suc (suc n)) h f = absurd (omega arith)

bit_of_power : (k : ℕ) → count_ones (2 ^ k) ≡ 1
bit_of_power zero = sole (count_ones 1) (ones_le_self 1) (λ e. absurd (none 1 (zero_from_ones 1 e) (omega arith)))
bit_of_power (suc k) = ones_step (2 ^ suc k) ∙ ap (λ (t : ℕ). 2 ^ suc k % 2 + count_ones t) (halved k) ∙ step (2 ^ suc k % 2) (count_ones (2 ^ k)) (even k) (bit_of_power k)
  where
    halved : (k : ℕ) → 2 ^ suc k / 2 ≡ 2 ^ k
    halved k = omega arith

    even : (k : ℕ) → 2 ^ suc k % 2 ≡ 0
    even k = omega arith

    step : (m n : ℕ) → m ≡ 0 → n ≡ 1 → m + n ≡ 1
    step m n e f = omega arith

-- the norm is its own size
pub norm_of_size : (u : Coefficient) (n : ℤ) (m : ℕ) → n ≡ norm u → m ≡ nat_abs n → pos m ≡ norm u
norm_of_size u n m e f = sym (whole (norm u) m (norm_not_negative u) (sym (f ∙ ap nat_abs e)))

-- the test of the norm
pub power_test : (u : Coefficient) (n : ℕ) → pos n ≡ norm u → IsTrue (count_ones n == 1) ↔ IsDeltaPower u
power_test u n e = (to, back)
  where
    to : IsTrue (count_ones n == 1) → IsDeltaPower u
    to t = let b : (k : ℕ) × (n ≡ 2 ^ k) = one_bit n n (omega arith) (eq_of (count_ones n) 1 t) in power_of_norm u n (b.0) e (b.1)

    back : IsDeltaPower u → IsTrue (count_ones n == 1)
    back p = let b = norm_of_power u p in eq_true (count_ones n) 1 (ap count_ones (ap nat_abs (e ∙ b.1)) ∙ bit_of_power (b.0))
