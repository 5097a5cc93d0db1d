-- A row with a bit put in at a place, by numbers.
use Prim.Native.Nat.{zero, suc}
use Rattle.std.proofs.Common.{◌≡◌, ℕ, ◌+◌, ◌-◌, ◌*◌, ◌/◌, ◌%◌, ◌<◌, ◌≤◌, ◌^◌, Bool, true, false, cond, sym, ap, ◌∙◌, arith}
use Rattle.std.proofs.Math.Nat.{pow-succ'}
use Rattle.std.proofs.lemmas.Nat.{mod-pow-add}
use native.Mathlib.Nat.{pow-le-pow_right}
use Rattle.state_model.specs.Row.{inserted}

-- what is below the place stays, and what is above moves up
pub inserted_is : (j : ℕ) (b : Bool) (r : ℕ) → inserted j b r ≡ 2 * (r - r % 2 ^ j) + r % 2 ^ j + cond b (2 ^ j) 0
unfolding inserted
inserted_is zero true r = omega arith
inserted_is zero false r = omega arith
inserted_is (suc j) b r =
    ap (λ n. r % 2 + 2 * n) (inserted_is j b (r / 2))
    ∙ step b (2 ^ j) (2 ^ suc j) ((r / 2) % 2 ^ j) (r % 2 ^ suc j) (pow-succ' 2 j) (ap (λ n. r % 2 ^ n) (one j) ∙ mod-pow-add r j 1)
  where
    one : (j : ℕ) → suc j ≡ j + 1
    one j = omega arith

    step : (b : Bool) (p q m n : ℕ) → q ≡ 2 * p → n ≡ m * 2 + r % 2 → r % 2 + 2 * (2 * (r / 2 - m) + m + cond b p 0) ≡ 2 * (r - n) + n + cond b q 0
    step true p q m n e f = omega arith
    step false p q m n e f = omega arith

-- a row of half as many is below them all with the bit
pub inserted_below : (j n : ℕ) (b : Bool) (r : ℕ) → j < suc n → r < 2 ^ n → inserted j b r < 2 ^ suc n
unfolding inserted
inserted_below zero n b r l h = by b (2 ^ n) (2 ^ suc n) (pow-succ' 2 n) h
  where
    by : (b : Bool) (p q : ℕ) → q ≡ 2 * p → r < p → cond b 1 0 + 2 * r < q
    by true p q e h = omega arith
    by false p q e h = omega arith
inserted_below (suc j) zero b r l h = absurd (omega arith)
inserted_below (suc j) (suc n) b r l h =
    let k = inserted_below j n b (r / 2) (omega arith) (let e = pow-succ' 2 n in omega (arith, e)) in
    let e = pow-succ' 2 (suc n) in
    omega (arith, k, e)

-- ---- as the code computes it
step_is : (j : ℕ) → j < 12 → 1 * 2 ^ j % 2 ^ 16 ≡ 2 ^ j
step_is j l = let h : j ≤ 11 = omega arith in let p : 2 ^ j ≤ 2 ^ 11 = pow-le-pow_right {n = 2} (omega arith) h in small (2 ^ j) (omega (arith, p))
  where
    small : (n : ℕ) → n < 2 ^ 12 → 1 * n % 2 ^ 16 ≡ n
    small n h = omega arith

pub inserted_one : (j : ℕ) (b : Bool) (r : ℕ) → j < 12 → b ≡ true → 2 * (r - r % (1 * 2 ^ j % 2 ^ 16)) + r % (1 * 2 ^ j % 2 ^ 16) + 1 * 2 ^ j % 2 ^ 16 ≡ inserted j b r
inserted_one j b r l e =
    ap (λ n. 2 * (r - r % n) + r % n + n) (step_is j l)
    ∙ sym (inserted_is j b r ∙ ap (λ t. 2 * (r - r % 2 ^ j) + r % 2 ^ j + cond t (2 ^ j) 0) e)

pub inserted_none : (j : ℕ) (b : Bool) (r : ℕ) → j < 12 → b ≡ false → 2 * (r - r % (1 * 2 ^ j % 2 ^ 16)) + r % (1 * 2 ^ j % 2 ^ 16) ≡ inserted j b r
inserted_none j b r l e =
    ap (λ n. 2 * (r - r % n) + r % n) (step_is j l)
    ∙ sym (inserted_is j b r ∙ ap (λ t. 2 * (r - r % 2 ^ j) + r % 2 ^ j + cond t (2 ^ j) 0) e ∙ omega arith)
