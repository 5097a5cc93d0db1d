-- Runs of 2^p rows: row k * 2^p + x is row x of run k, and a bit from place p on is one for the whole run.
use Prim.Native.Nat.{zero, suc}
use Rattle.std.proofs.Common.{◌≡◌, ℕ, ◌+◌, ◌-◌, ◌*◌, ◌/◌, ◌<◌, ◌≤◌, ◌^◌, Bool, true, false, not, cond, List, length, take, drop, ◌++◌, slice_index_or, refl, sym, ap, subst, ◌∙◌, arith, ◌⊎◌, inl, inr}
use Rattle.std.proofs.Math.Nat.{pow-succ', mul_assoc, mul_comm, add-mul, one-mul, zero-mul, mul-div_cancel, mul-le-mul_right, div-mul-le_self}
use Rattle.std.proofs.lemmas.Bool.{cases_lt}
use Rattle.std.proofs.lemmas.List.{get_or-drop, get_or-take, get_or-append-add, get_or_append_left, length-take-le, length-drop}
use Rattle.std.proofs.lemmas.Nat.{pow-add, pow_pos}
use Rattle.state_model.specs.Coefficient.{Coefficient}
use Rattle.state_model.specs.Row.{is_set, with_bit}
use Rattle.state_model.proofs.Registers.{higher, high_with_bit}
use Rattle.state_model.proofs.RegisterLists.{row_split}
use Rattle.state_model.proofs.TwoGateLists.{turned_is, source_row, source_at}
use Rattle.omega_ring.specs.Views.{omega_value}
use Rattle.omega_ring.specs.declared.coefficients.Omega.{Omega}
use Rattle.amplitude_register.specs.Multiples.{HasPlace}
use Rattle.omega_ring.proofs.Entries.{zero_omega}
use Rattle.amplitude_register.proofs.RowPairs.{value_at}
use Rattle.amplitude_register.proofs.TwoGates.{source_inside}
use Rattle.amplitude_register.proofs.Written.{IsWrittenFrom}

-- ---- rows of a run
run_double : (p k : ℕ) → k * 2 ^ suc p ≡ 2 * (k * 2 ^ p)
run_double p k = ap (λ n. k * n) (pow-succ' 2 p ∙ mul_comm 2 (2 ^ p)) ∙ sym (mul_assoc k (2 ^ p) 2) ∙ mul_comm (k * 2 ^ p) 2

run_even : (p k : ℕ) → k * 2 ^ suc p ≡ cond false 1 0 + 2 * (k * 2 ^ p)
run_even p k = let e = run_double p k in omega (arith, e)

run_half : (p x : ℕ) → x < 2 ^ suc p → x / 2 < 2 ^ p
run_half p x h = let e = pow-succ' 2 p in omega (arith, e, h)

run_split : (p k x : ℕ) → k * 2 ^ suc p + x ≡ cond (is_set 0 x) 1 0 + 2 * (k * 2 ^ p + x / 2)
run_split p k x = let e = run_double p k in let f = row_split x in omega (arith, e, f)

run_none : (k x : ℕ) → x < 2 ^ zero → k * 2 ^ zero + x ≡ k * 2 ^ zero
run_none k x h = omega (arith, h)

pub is_set-run : (p i k x : ℕ) → p ≤ i → x < 2 ^ p → is_set i (k * 2 ^ p + x) ≡ is_set i (k * 2 ^ p)
is_set-run zero i k x l h = ap (is_set i) (run_none k x h)
is_set-run (suc p) zero k x l h = absurd (omega arith)
is_set-run (suc p) (suc i) k x l h =
    ap (is_set (suc i)) (run_split p k x) ∙ higher (is_set 0 x) (k * 2 ^ p + x / 2) i
    ∙ is_set-run p i k (x / 2) (omega arith) (run_half p x h)
    ∙ sym (ap (is_set (suc i)) (run_even p k) ∙ higher false (k * 2 ^ p) i)

pub with_bit-run : (p j : ℕ) (b : Bool) (k x : ℕ) → p ≤ j → x < 2 ^ p → with_bit j b (k * 2 ^ p + x) ≡ with_bit j b (k * 2 ^ p) + x
with_bit-run zero j b k x l h = ap (with_bit j b) (run_none k x h) ∙ omega (arith, h)
with_bit-run (suc p) zero b k x l h = absurd (omega arith)
with_bit-run (suc p) (suc j) b k x l h =
    ap (with_bit (suc j) b) (run_split p k x) ∙ high_with_bit b (is_set 0 x) (k * 2 ^ p + x / 2) j
    ∙ ap (λ n. cond (is_set 0 x) 1 0 + 2 * n) (with_bit-run p j b k (x / 2) (omega arith) (run_half p x h))
    ∙ joined (with_bit j b (k * 2 ^ p))
    ∙ ap (λ n. n + x) (sym (ap (with_bit (suc j) b) (run_even p k) ∙ high_with_bit b false (k * 2 ^ p) j))
  where
    joined : (w : ℕ) → cond (is_set 0 x) 1 0 + 2 * (w + x / 2) ≡ (cond false 1 0 + 2 * w) + x
    joined w = let f = row_split x in omega (arith, f)

pub source-run : (i j p k x : ℕ) → p ≤ i → p ≤ j → x < 2 ^ p → source_row i j (k * 2 ^ p + x) ≡ source_row i j (k * 2 ^ p) + x
source-run i j p k x l m h = by (is_set i (k * 2 ^ p)) refl
  where
    by : (b : Bool) → is_set i (k * 2 ^ p) ≡ b → source_row i j (k * 2 ^ p + x) ≡ source_row i j (k * 2 ^ p) + x
    by false e = source_at i j (k * 2 ^ p + x) false (is_set-run p i k x l h ∙ e) ∙ ap (λ n. n + x) (sym (source_at i j (k * 2 ^ p) false e))
    by true e =
        source_at i j (k * 2 ^ p + x) true (is_set-run p i k x l h ∙ e) ∙ turned_is j (k * 2 ^ p + x)
        ∙ ap (λ b. with_bit j (not b) (k * 2 ^ p + x)) (is_set-run p j k x m h) ∙ with_bit-run p j (not (is_set j (k * 2 ^ p))) k x m h
        ∙ ap (λ n. n + x) (sym (source_at i j (k * 2 ^ p) true e ∙ turned_is j (k * 2 ^ p)))

-- ---- runs of a list
-- the rows are whole runs
pub runs_whole : (p j rows : ℕ) → HasPlace j rows → p ≤ j → rows / 2 ^ p * 2 ^ p ≡ rows
runs_whole p j rows place l =
    let split : rows ≡ 2 ^ (place.qubits - p) * 2 ^ p = place.count ∙ ap (λ n. 2 ^ n) (let m = place.inside in omega (arith, l, m)) ∙ pow-add 2 (place.qubits - p) p in
    ap (λ n. n / 2 ^ p * 2 ^ p) split ∙ ap (λ n. n * 2 ^ p) (mul-div_cancel (2 ^ (place.qubits - p)) {n = 2 ^ p} (pow_pos p)) ∙ sym split

-- a run ends inside
pub run_inside : (run rows k n : ℕ) → k < n → n ≤ rows / run → k * run + run ≤ rows
run_inside run rows k n l m =
    let next : (k + 1) * run ≡ k * run + run = add-mul k 1 run ∙ ap (λ n. k * run + n) (one-mul run) in
    let some : (k + 1) * run ≤ rows / run * run = mul-le-mul_right {m = k + 1} {n = rows / run} run (omega (arith, l, m)) in
    let all = div-mul-le_self rows run in
    omega (arith, next, some, all)

-- the run before run k
pub run_next : (run k : ℕ) → 0 < k → k * run ≡ (k - 1) * run + run
run_next run k h = ap (λ n. n * run) (omega (arith, h)) ∙ add-mul (k - 1) 1 run ∙ ap (λ n. (k - 1) * run + n) (one-mul run)

pub run_first : (run k : ℕ) → k ≤ 0 → k * run ≤ 0
run_first run zero h = omega (arith, (zero-mul run))
run_first run (suc k) h = absurd (omega (arith, h))

-- where the rows of a run come from
pub run_source : (i j p run k start x : ℕ) → run ≡ 2 ^ p → start ≡ source_row i j (k * run) → p ≤ i → p ≤ j → x < run → start + x ≡ source_row i j (k * run + x)
run_source i j p run k start x e f l m h =
    ap (λ n. n + x) (f ∙ ap (λ n. source_row i j (k * n)) e) ∙ sym (source-run i j p k x l m (omega (arith, e, h))) ∙ ap (λ n. source_row i j (k * n + x)) (sym e)

pub run_source_inside : (i j p run k start rows : ℕ) → run ≡ 2 ^ p → start ≡ source_row i j (k * run) → HasPlace j rows → p ≤ i → p ≤ j → k * run + run ≤ rows → start + run ≤ rows
run_source_inside i j p run k start rows e f place l m h =
    let some = pow_pos p in
    let last = source_inside i j rows (k * run + (run - 1)) place (omega (arith, h, some, e)) in
    let same = run_source i j p run k start (run - 1) e f l m (omega (arith, some, e)) in
    omega (arith, last, same, some, e)

-- ---- a run that is copied
abbrev pub with_run : List Omega → ℕ → List Omega → ℕ → ℕ → List Omega
with_run ys to fs start run = take to ys ++ (take run (drop start fs) ++ drop (to + run) ys)

module _ (ys fs : List Omega) (to start run : ℕ) (fits : to + run ≤ length ys) (lies : start + run ≤ length fs) where
  from_start : (x : ℕ) → slice_index_or (with_run ys to fs start run) (to + x) zero_omega ≡ slice_index_or (take run (drop start fs) ++ drop (to + run) ys) x zero_omega
  from_start x =
      ap (λ n. slice_index_or (with_run ys to fs start run) (n + x) zero_omega) (sym (length-take-le to ys (omega (arith, fits))))
      ∙ get_or-append-add (take to ys) (take run (drop start fs) ++ drop (to + run) ys) x zero_omega

  run_length : length (take run (drop start fs)) ≡ run
  run_length = length-take-le run (drop start fs) (let e = length-drop start fs in omega (arith, e, lies))

  -- inside the run, the copied rows
  copied_at : (x : ℕ) → x < run → slice_index_or (with_run ys to fs start run) (to + x) zero_omega ≡ slice_index_or fs (start + x) zero_omega
  copied_at x h =
      from_start x ∙ get_or_append_left (take run (drop start fs)) (drop (to + run) ys) zero_omega x (let e = run_length in omega (arith, e, h))
      ∙ get_or-take run (drop start fs) x zero_omega h ∙ get_or-drop start fs x zero_omega

  -- after the run, the old ones
  kept_at : (x : ℕ) → slice_index_or (with_run ys to fs start run) (to + (run + x)) zero_omega ≡ slice_index_or ys (to + run + x) zero_omega
  kept_at x =
      from_start (run + x) ∙ ap (λ n. slice_index_or (take run (drop start fs) ++ drop (to + run) ys) (n + x) zero_omega) (sym run_length)
      ∙ get_or-append-add (take run (drop start fs)) (drop (to + run) ys) x zero_omega ∙ get_or-drop (to + run) ys x zero_omega

  pub run_written : (R : ℕ → Coefficient → Type 0) (count : ℕ) (zs : List Omega) → zs ≡ with_run ys to fs start run → length zs ≡ length ys → ((x : ℕ) → x < run → R (to + x) (value_at fs (start + x)))
      → IsWrittenFrom R count ys (to + run) → IsWrittenFrom R count zs to
  run_written R count zs is rows each h = record { rows = rows ∙ h.rows; done = λ r l m. by r l m (cases_lt r (to + run)) }
    where
      at_run : (x : ℕ) → x < run → R (to + x) (value_at zs (to + x))
      at_run x p = subst (R (to + x)) (ap omega_value (sym (ap (λ (t : List Omega). slice_index_or t (to + x) zero_omega) is ∙ copied_at x p))) (each x p)

      after_run : (x : ℕ) → to + run + x < count → R (to + (run + x)) (value_at zs (to + (run + x)))
      after_run x m = subst (R (to + (run + x))) (ap omega_value (sym (ap (λ (t : List Omega). slice_index_or t (to + (run + x)) zero_omega) is ∙ kept_at x)))
          (subst (λ n. R n (value_at ys (to + run + x))) (omega arith) (h.done (to + run + x) (omega arith) m))

      by : (r : ℕ) → to ≤ r → r < count → (r < to + run) ⊎ (to + run ≤ r) → R r (value_at zs r)
      by r l m (inl p) = subst (λ n. R n (value_at zs n)) (omega (arith, l)) (at_run (r - to) (omega (arith, l, p)))
      by r l m (inr p) = subst (λ n. R n (value_at zs n)) (omega (arith, p)) (after_run (r - (to + run)) (omega (arith, p, m)))
