-- Small groups: a qubit whose bit is certain, and a pair, have parts with few rows.
use Rattle.std.proofs.Common.{◌≡◌, ℕ, ◌+◌, ◌*◌, ◌^◌, ◌≤◌, ◌==◌, Bool, true, false, not, cond, ◌||◌, List, [], ◌∷◌, length, slice_index_or, sum_by, le_trans, refl, sym, ap, subst, ◌∙◌, arith}
use mathlib.Core.Path.{fun_ext}
use Rattle.std.proofs.lemmas.List.Sums.{sum_by-cons}
use Rattle.state_model.specs.Coefficient.{zero_coefficient, one_coefficient, ◌⊗◌, squares}
use Rattle.state_model.specs.Row.{is_set, with_bit, is_listed, within, AgreeOutside, rows_of}
use Rattle.state_model.specs.StateVector.{Vector, IsPart, HasSizeAtLeast, squares_over}
use Rattle.state_model.specs.Measurement.{paired}
use Rattle.state_model.specs.Registers.{register_vector, register_row}
use Rattle.state_model.specs.Laws.{CertainQubitsHaveRegisters, NewPairsHaveRegisters}
use Rattle.state_model.proofs.Domain.{⊗-zero_coefficient, zero_coefficient-⊗}
use Rattle.state_model.proofs.Booleans.{clash, eq_true, eq_of, ne_of, or_true}
use Rattle.state_model.proofs.Kept.{within_twice}
use Rattle.state_model.proofs.Parts.{within_all}
use Rattle.state_model.proofs.Products.{one_some}
use Rattle.state_model.proofs.RowLaws.{zero_clear}
use Rattle.state_model.proofs.RowLaws.{same_row, is_set-within_inside, is_set-with_bit_same, is_set-with_bit_other}

sum_small : (f : ℕ → ℕ) (xs : List ℕ) → ((x : ℕ) → f x ≤ 1) → sum_by f xs ≤ length xs
sum_small f [] h = omega arith
sum_small f (x ∷ xs) h = let a = h x in let b = sum_small f xs h in subst (λ n. n ≤ length (x ∷ xs)) (sym (sum_by-cons f x xs)) (omega arith)

-- the rows within g that are on, each once
unfoldable pub on_rows : List ℕ → (ℕ → Bool) → Vector
on_rows g on x = cond (within g x == x) (cond (on x) one_coefficient zero_coefficient) zero_coefficient

module _ (g : List ℕ) (v : Vector) (on : ℕ → Bool)
    (inside : (x : ℕ) → on (within g x) ≡ on x)
    (off : (x : ℕ) → on x ≡ false → v x ≡ zero_coefficient)
    (same : (x y : ℕ) → AgreeOutside g x y → on x ≡ true → on y ≡ true → v x ≡ v y)
    (r : ℕ) (row : within g r ≡ r) (row_on : on r ≡ true) where
  on_rows-within : (x : ℕ) → on_rows g on (within g x) ≡ cond (on x) one_coefficient zero_coefficient
  unfolding on_rows
  on_rows-within x = ap (λ t. cond t (cond (on (within g x)) one_coefficient zero_coefficient) zero_coefficient) (eq_true _ _ (within_twice g x)) ∙ ap (λ t. cond t one_coefficient zero_coefficient) (inside x)

  on_rows-ratios : (x y : ℕ) → AgreeOutside g x y → v x ⊗ cond (on y) one_coefficient zero_coefficient ≡ v y ⊗ cond (on x) one_coefficient zero_coefficient
  on_rows-ratios x y near = by (on x) refl (on y) refl
    where
      by : (s : Bool) → on x ≡ s → (t : Bool) → on y ≡ t → v x ⊗ cond (on y) one_coefficient zero_coefficient ≡ v y ⊗ cond (on x) one_coefficient zero_coefficient
      by true e true f = ap (λ k. k ⊗ cond (on y) one_coefficient zero_coefficient) (same x y near e f) ∙ ap (λ t. v y ⊗ cond t one_coefficient zero_coefficient) (f ∙ sym e)
      by true e false f = ap (λ t. v x ⊗ cond t one_coefficient zero_coefficient) f ∙ ⊗-zero_coefficient (v x) ∙ sym (ap (λ k. k ⊗ cond (on x) one_coefficient zero_coefficient) (off y f) ∙ zero_coefficient-⊗ (cond (on x) one_coefficient zero_coefficient))
      by false e t f = ap (λ k. k ⊗ cond (on y) one_coefficient zero_coefficient) (off x e) ∙ zero_coefficient-⊗ (cond (on y) one_coefficient zero_coefficient) ∙ sym (ap (λ t. v y ⊗ cond t one_coefficient zero_coefficient) e ∙ ⊗-zero_coefficient (v y))

  pub on_rows-part : IsPart v g (on_rows g on)
  on_rows-part = record {
    some_row = λ none. one_some (sym (sym (ap (on_rows g on) row) ∙ on_rows-within r ∙ ap (λ t. cond t one_coefficient zero_coefficient) row_on) ∙ none r);
    over = λ x here. is_over x here (within g x == x) refl;
    ratios = λ x y near. ap (λ k. v x ⊗ k) (on_rows-within y) ∙ on_rows-ratios x y near ∙ sym (ap (λ k. v y ⊗ k) (on_rows-within x));
  }
    where
      is_over : (x : ℕ) → ¬ (on_rows g on x ≡ zero_coefficient) → (t : Bool) → (within g x == x) ≡ t → within g x ≡ x
      is_over x here true e = eq_of _ _ e
      is_over x here false e = absurd (here (unfold on_rows in ap (λ t. cond t (cond (on x) one_coefficient zero_coefficient) zero_coefficient) e))

one_square : (s t : Bool) → squares (cond s (cond t one_coefficient zero_coefficient) zero_coefficient) ≤ 1
unfolding squares
one_square true true = omega arith
one_square true false = omega arith
one_square false t = omega arith

-- where they are a part, the group's size is at most its number of rows
few_rows : (g : List ℕ) (v : Vector) (on : ℕ → Bool) → IsPart v g (on_rows g on) → ¬ HasSizeAtLeast v g (length (rows_of g) + 1)
unfolding squares_over on_rows
few_rows g v on part large =
    let a = large (on_rows g on) part in
    let b = sum_small (λ x. squares (on_rows g on x)) (rows_of g) (λ x. one_square (within g x == x) (on x)) in
    absurd (over _ _ a b)
  where
    over : (m n : ℕ) → n + 1 ≤ m → m ≤ n → ⊥
    over m n a b = omega arith

-- a size at least a bound is at least a lesser one
size_less : (v : Vector) (g : List ℕ) (m n : ℕ) → m ≤ n → HasSizeAtLeast v g n → HasSizeAtLeast v g m
size_less v g m n h large u part = le_trans h (large u part)

-- whether a bit is the given one
agrees : Bool → Bool → Bool
agrees true b = b
agrees false b = not b

agrees_same : (a b : Bool) → agrees a b ≡ true → b ≡ a
unfolding agrees
agrees_same true b e = e
agrees_same false true e = cc
agrees_same false false e = refl

agrees_self : (a : Bool) → agrees a a ≡ true
unfolding agrees
agrees_self true = refl
agrees_self false = refl

agrees_other : (a b : Bool) → agrees a b ≡ false → b ≡ not a
unfolding agrees
agrees_other true b e = e
agrees_other false true e = refl
agrees_other false false e = cc

-- a qubit whose bit is certain has the rows with that bit as its part
certain_part : (q : ℕ) (b : Bool) (v : Vector) → ((x : ℕ) → is_set q x ≡ not b → v x ≡ zero_coefficient) → IsPart v (q ∷ []) (on_rows (q ∷ []) (λ x. agrees b (is_set q x)))
unfolding is_listed
certain_part q b v sure =
    on_rows-part (q ∷ []) v (λ x. agrees b (is_set q x))
    (λ x. ap (agrees b) (is_set-within_inside (q ∷ []) q x own))
    (λ x e. sure x (agrees_other b (is_set q x) e))
    (λ x y near e f. ap v (same_row x y (λ p. at x y near (agrees_same b _ e) (agrees_same b _ f) p (q == p) refl)))
    (within (q ∷ []) (with_bit q b 0)) (within_twice (q ∷ []) (with_bit q b 0))
    (ap (agrees b) (is_set-within_inside (q ∷ []) q (with_bit q b 0) own ∙ is_set-with_bit_same q b 0) ∙ agrees_self b)
  where
    own : is_listed (q ∷ []) q ≡ true
    own = ap (λ c. c || false) (eq_true q q refl)

    at : (x y : ℕ) → AgreeOutside (q ∷ []) x y → is_set q x ≡ b → is_set q y ≡ b → (p : ℕ) (t : Bool) → (q == p) ≡ t → is_set p x ≡ is_set p y
    at x y near e f p true g = ap (λ n. is_set n x) (sym (eq_of q p g)) ∙ e ∙ sym f ∙ ap (λ n. is_set n y) (eq_of q p g)
    at x y near e f p false g = near p (ap (λ c. c || false) g)

-- so it is a small group
pub certain_small : (q : ℕ) (b : Bool) (v : Vector) → ((x : ℕ) → is_set q x ≡ not b → v x ≡ zero_coefficient) → ¬ HasSizeAtLeast v (q ∷ []) (2 ^ 60)
unfolding rows_of
certain_small q b v sure large = few_rows (q ∷ []) v _ (certain_part q b v sure) (size_less v (q ∷ []) 3 (2 ^ 60) (omega arith) large)

-- its register has the one row
pub certain_qubits_have_registers : CertainQubitsHaveRegisters
unfolding agrees
certain_qubits_have_registers q b v sure = subst (λ u. IsPart v (q ∷ []) u) (fun_ext (λ x. same x)) (certain_part q b v sure)
  where
    same : (x : ℕ) → on_rows (q ∷ []) (λ y. agrees b (is_set q y)) x ≡ register_vector (q ∷ []) (cond b zero_coefficient one_coefficient ∷ cond b one_coefficient zero_coefficient ∷ []) x
    same x = unfold on_rows register_vector register_row in by b (is_set q x)
      where
        by : (c t : Bool) → cond (within (q ∷ []) x == x) (cond (agrees c t) one_coefficient zero_coefficient) zero_coefficient ≡ cond (within (q ∷ []) x == x) (slice_index_or (cond c zero_coefficient one_coefficient ∷ cond c one_coefficient zero_coefficient ∷ []) (cond t 1 0 + 2 * 0) zero_coefficient) zero_coefficient
        by true true = refl
        by true false = refl
        by false true = refl
        by false false = refl

-- a new pair has the rows with both bits the same as its part
pair_part : (p q : ℕ) (v : Vector) → IsPart (paired p q v) (p ∷ q ∷ []) (on_rows (p ∷ q ∷ []) (λ x. agrees (is_set p x) (is_set q x)))
unfolding is_listed
pair_part p q v =
    on_rows-part (p ∷ q ∷ []) (paired p q v) (λ x. agrees (is_set p x) (is_set q x))
    (λ x. ap (λ c. agrees c (is_set q (within (p ∷ q ∷ []) x))) (is_set-within_inside (p ∷ q ∷ []) p x first) ∙ ap (agrees (is_set p x)) (is_set-within_inside (p ∷ q ∷ []) q x second))
    (λ x e. off x (is_set p x) refl (is_set q x) refl e)
    (λ x y near e f. is x (is_set p x) refl (is_set q x) refl e ∙ ap v (same_row _ _ (λ r. at x y near r (p == r) refl (q == r) refl)) ∙ sym (is y (is_set p y) refl (is_set q y) refl f))
    0 (within_all (p ∷ q ∷ []) 0 (λ r out. zero_clear r))
    (ap (λ c. agrees c (is_set q 0)) (zero_clear p) ∙ ap (agrees false) (zero_clear q) ∙ agrees_self false)
  where
    first : is_listed (p ∷ q ∷ []) p ≡ true
    first = ap (λ c. c || ((q == p) || false)) (eq_true p p refl)

    second : is_listed (p ∷ q ∷ []) q ≡ true
    second = ap (λ c. (p == q) || (c || false)) (eq_true q q refl) ∙ or_true (p == q)

    off : (x : ℕ) (s : Bool) → is_set p x ≡ s → (t : Bool) → is_set q x ≡ t → agrees (is_set p x) (is_set q x) ≡ false → paired p q v x ≡ zero_coefficient
    off x true e true f h = absurd (clash (sym (agrees_self true) ∙ sym (ap (λ c. agrees c (is_set q x)) e ∙ ap (agrees true) f) ∙ h))
    off x true e false f h = unfold paired in
        ap (λ c. cond c (cond (is_set q x) (v (with_bit p false (with_bit q false x))) zero_coefficient) (cond (is_set q x) zero_coefficient (v x))) e ∙ ap (λ c. cond c (v (with_bit p false (with_bit q false x))) zero_coefficient) f
    off x false e true f h = unfold paired in
        ap (λ c. cond c (cond (is_set q x) (v (with_bit p false (with_bit q false x))) zero_coefficient) (cond (is_set q x) zero_coefficient (v x))) e ∙ ap (λ c. cond c zero_coefficient (v x)) f
    off x false e false f h = absurd (clash (sym (agrees_self false) ∙ sym (ap (λ c. agrees c (is_set q x)) e ∙ ap (agrees false) f) ∙ h))

    cleared : (x : ℕ) → is_set p x ≡ false → is_set q x ≡ false → with_bit p false (with_bit q false x) ≡ x
    cleared x e f = same_row _ _ (λ r. by r (r == p) refl (r == q) refl)
      where
        by : (r : ℕ) (s : Bool) → (r == p) ≡ s → (t : Bool) → (r == q) ≡ t → is_set r (with_bit p false (with_bit q false x)) ≡ is_set r x
        by r true g t h = ap (λ n. is_set n (with_bit p false (with_bit q false x))) (eq_of r p g) ∙ is_set-with_bit_same p false _ ∙ sym (ap (λ n. is_set n x) (eq_of r p g) ∙ e)
        by r false g true h = is_set-with_bit_other r p false _ (ne_of r p g) ∙ ap (λ n. is_set n (with_bit q false x)) (eq_of r q h) ∙ is_set-with_bit_same q false x ∙ sym (ap (λ n. is_set n x) (eq_of r q h) ∙ f)
        by r false g false h = is_set-with_bit_other r p false _ (ne_of r p g) ∙ is_set-with_bit_other r q false x (ne_of r q h)

    -- where both bits are the same, the row with both cleared gives the coefficient
    is : (x : ℕ) (s : Bool) → is_set p x ≡ s → (t : Bool) → is_set q x ≡ t → agrees (is_set p x) (is_set q x) ≡ true → paired p q v x ≡ v (with_bit p false (with_bit q false x))
    is x true e true f h = unfold paired in
        ap (λ c. cond c (cond (is_set q x) (v (with_bit p false (with_bit q false x))) zero_coefficient) (cond (is_set q x) zero_coefficient (v x))) e ∙ ap (λ c. cond c (v (with_bit p false (with_bit q false x))) zero_coefficient) f
    is x true e false f h = absurd (clash (sym (agrees_same true false (sym (ap (λ c. agrees c (is_set q x)) e ∙ ap (agrees true) f) ∙ h))))
    is x false e true f h = absurd (clash (agrees_same false true (sym (ap (λ c. agrees c (is_set q x)) e ∙ ap (agrees false) f) ∙ h)))
    is x false e false f h = unfold paired in
        (ap (λ c. cond c (cond (is_set q x) (v (with_bit p false (with_bit q false x))) zero_coefficient) (cond (is_set q x) zero_coefficient (v x))) e ∙ ap (λ c. cond c zero_coefficient (v x)) f ∙ ap v (sym (cleared x e f)))

    at : (x y : ℕ) → AgreeOutside (p ∷ q ∷ []) x y → (r : ℕ) (s : Bool) → (p == r) ≡ s → (t : Bool) → (q == r) ≡ t → is_set r (with_bit p false (with_bit q false x)) ≡ is_set r (with_bit p false (with_bit q false y))
    at x y near r true g t h =
        ap (λ n. is_set n (with_bit p false (with_bit q false x))) (sym (eq_of p r g)) ∙ is_set-with_bit_same p false _
        ∙ sym (ap (λ n. is_set n (with_bit p false (with_bit q false y))) (sym (eq_of p r g)) ∙ is_set-with_bit_same p false _)
    at x y near r false g true h =
        is_set-with_bit_other r p false _ (λ e. ne_of p r g (sym e)) ∙ ap (λ n. is_set n (with_bit q false x)) (sym (eq_of q r h)) ∙ is_set-with_bit_same q false x
        ∙ sym (is_set-with_bit_other r p false _ (λ e. ne_of p r g (sym e)) ∙ ap (λ n. is_set n (with_bit q false y)) (sym (eq_of q r h)) ∙ is_set-with_bit_same q false y)
    at x y near r false g false h =
        is_set-with_bit_other r p false _ (λ e. ne_of p r g (sym e)) ∙ is_set-with_bit_other r q false x (λ e. ne_of q r h (sym e))
        ∙ near r (ap (λ c. c || ((q == r) || false)) g ∙ ap (λ c. c || false) h)
        ∙ sym (is_set-with_bit_other r p false _ (λ e. ne_of p r g (sym e)) ∙ is_set-with_bit_other r q false y (λ e. ne_of q r h (sym e)))

-- so it is a small group
pub pair_small : (p q : ℕ) (v : Vector) → ¬ HasSizeAtLeast (paired p q v) (p ∷ q ∷ []) (2 ^ 60)
unfolding rows_of
pair_small p q v large = few_rows (p ∷ q ∷ []) (paired p q v) _ (pair_part p q v) (size_less (paired p q v) (p ∷ q ∷ []) 5 (2 ^ 60) (omega arith) large)

-- its register has the first and the last row
pub new_pairs_have_registers : NewPairsHaveRegisters
unfolding agrees
new_pairs_have_registers p q v = subst (λ u. IsPart (paired p q v) (p ∷ q ∷ []) u) (fun_ext (λ x. same x)) (pair_part p q v)
  where
    same : (x : ℕ) → on_rows (p ∷ q ∷ []) (λ y. agrees (is_set p y) (is_set q y)) x ≡ register_vector (p ∷ q ∷ []) (one_coefficient ∷ zero_coefficient ∷ zero_coefficient ∷ one_coefficient ∷ []) x
    same x = unfold on_rows register_vector register_row in by (is_set p x) (is_set q x)
      where
        by : (s t : Bool) → cond (within (p ∷ q ∷ []) x == x) (cond (agrees s t) one_coefficient zero_coefficient) zero_coefficient ≡ cond (within (p ∷ q ∷ []) x == x) (slice_index_or (one_coefficient ∷ zero_coefficient ∷ zero_coefficient ∷ one_coefficient ∷ []) (cond s 1 0 + 2 * (cond t 1 0 + 2 * 0)) zero_coefficient) zero_coefficient
        by true true = refl
        by true false = refl
        by false true = refl
        by false false = refl
