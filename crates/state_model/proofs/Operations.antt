-- What each operation leaves of a vector: a row, and rows with bits of live numbers alone.
use Rattle.std.proofs.Common.{◌≡◌, ◌≢◌, ℕ, ◌==◌, Bool, true, false, not, cond, ◌&&◌, ◌||◌, List, [], ◌∷◌, ◌++◌, refl, sym, ap, ◌∙◌, arith}
use borrow.Author.Differences.{ints}
use Rattle.state_model.specs.Coefficient.{Coefficient, zero_coefficient, negated}
use Rattle.state_model.specs.Row.{is_set, with_bit, turned, is_listed}
use Rattle.state_model.specs.StateVector.{Vector, IsOver}
use Rattle.state_model.specs.Gate.{two_gate, controlled_not, controlled_phase}
use Rattle.state_model.specs.Measurement.{keep, raised, paired}
use Rattle.state_model.specs.Row.{without}
use Rattle.state_model.specs.declared.Two.{Two}
use Rattle.state_model.specs.declared.Two.TheVariants as twos
use Rattle.state_model.proofs.Ring.{same_coordinates}
use Rattle.state_model.proofs.SameStates.{stable}
use Rattle.state_model.proofs.Booleans.{and_true, clash, eq_of, ne_of}
use Rattle.state_model.proofs.Numbers.{is_listed-without, is_listed-snoc}
use Rattle.state_model.proofs.Parts.{within_all, no_bit_outside}
use Rattle.state_model.proofs.RowLaws.{same_row, is_set-with_bit_same, is_set-with_bit_other, is_set-turned_same, is_set-turned_other}

-- a row with a bit outside has no coefficient
pub no_row : (g : List ℕ) (v : Vector) → IsOver g v → (r x : ℕ) → is_listed g r ≡ false → is_set r x ≡ true → v x ≡ zero_coefficient
no_row g v over r x out e = stable (v x) zero_coefficient (λ row. clash (sym e ∙ no_bit_outside g x r (over x row) out))

-- a vector is over g where no row has a bit outside
pub over_by : (g : List ℕ) (v : Vector) → ((r x : ℕ) → is_listed g r ≡ false → is_set r x ≡ true → v x ≡ zero_coefficient) → IsOver g v
over_by g v none x row = within_all g x (λ p out. by p out (is_set p x) refl)
  where
    by : (p : ℕ) → is_listed g p ≡ false → (t : Bool) → is_set p x ≡ t → is_set p x ≡ false
    by p out true e = absurd (row (none p x out e))
    by p out false e = e

negated_absent : negated zero_coefficient ≡ zero_coefficient
negated_absent = refl

negated_twice : (z : Coefficient) → negated (negated z) ≡ z
negated_twice z = same_coordinates _ _ (omega (arith, ints)) (omega (arith, ints)) (omega (arith, ints)) (omega (arith, ints))

turned_twice : (q x : ℕ) → turned q (turned q x) ≡ x
turned_twice q x = same_row _ _ (λ p. at p (p == q) refl)
  where
    not_not : (b : Bool) → not (not b) ≡ b
    not_not true = refl
    not_not false = refl

    at : (p : ℕ) (t : Bool) → (p == q) ≡ t → is_set p (turned q (turned q x)) ≡ is_set p x
    at p true e = ap (λ n. is_set n (turned q (turned q x))) (eq_of p q e) ∙ is_set-turned_same q (turned q x) ∙ ap not (is_set-turned_same q x) ∙ not_not (is_set q x) ∙ sym (ap (λ n. is_set n x) (eq_of p q e))
    at p false e = is_set-turned_other p q (turned q x) (ne_of p q e) ∙ is_set-turned_other p q x (ne_of p q e)

-- ---- gates on two qubits
controlled_not-some_row : (p q : ℕ) (v : Vector) → p ≢ q → ¬ ((x : ℕ) → v x ≡ zero_coefficient) → ¬ ((x : ℕ) → controlled_not p q v x ≡ zero_coefficient)
unfolding controlled_not
controlled_not-some_row p q v apart some none = some (λ x. by x (is_set p x) refl)
  where
    by : (x : ℕ) (t : Bool) → is_set p x ≡ t → v x ≡ zero_coefficient
    by x true e =
        ap v (sym (turned_twice q x)) ∙ sym (ap (λ t. v (cond t (turned q (turned q x)) (turned q x))) (is_set-turned_other p q x apart ∙ e)) ∙ none (turned q x)
    by x false e = sym (ap (λ t. v (cond t (turned q x) x)) e) ∙ none x

controlled_not-over : (g : List ℕ) (p q : ℕ) (v : Vector) → is_listed g q ≡ true → IsOver g v → IsOver g (controlled_not p q v)
unfolding controlled_not
controlled_not-over g p q v inside over = over_by g _ (λ r x out e. by r x out e (is_set p x))
  where
    by : (r x : ℕ) → is_listed g r ≡ false → is_set r x ≡ true → (t : Bool) → v (cond t (turned q x) x) ≡ zero_coefficient
    by r x out e true = no_row g v over r (turned q x) out (is_set-turned_other r q x (λ is. clash (sym inside ∙ ap (is_listed g) (sym is) ∙ out)) ∙ e)
    by r x out e false = no_row g v over r x out e

controlled_phase-some_row : (p q : ℕ) (v : Vector) → ¬ ((x : ℕ) → v x ≡ zero_coefficient) → ¬ ((x : ℕ) → controlled_phase p q v x ≡ zero_coefficient)
unfolding controlled_phase
controlled_phase-some_row p q v some none = some (λ x. by x (is_set p x) (is_set q x) (none x))
  where
    by : (x : ℕ) (s t : Bool) → cond s (cond t (negated (v x)) (v x)) (v x) ≡ zero_coefficient → v x ≡ zero_coefficient
    by x true true e = sym (negated_twice (v x)) ∙ ap negated e ∙ negated_absent
    by x true false e = e
    by x false t e = e

controlled_phase-over : (g : List ℕ) (p q : ℕ) (v : Vector) → IsOver g v → IsOver g (controlled_phase p q v)
unfolding controlled_phase
controlled_phase-over g p q v over = over_by g _ (λ r x out e. by x (is_set p x) (is_set q x) (no_row g v over r x out e))
  where
    by : (x : ℕ) (s t : Bool) → v x ≡ zero_coefficient → cond s (cond t (negated (v x)) (v x)) (v x) ≡ zero_coefficient
    by x true true e = ap negated e ∙ negated_absent
    by x true false e = e
    by x false t e = e

pub two_gate-some_row : (k : Two) (p q : ℕ) (v : Vector) → p ≢ q → ¬ ((x : ℕ) → v x ≡ zero_coefficient) → ¬ ((x : ℕ) → two_gate k p q v x ≡ zero_coefficient)
unfolding two_gate
two_gate-some_row twos.Cnot p q v apart some = controlled_not-some_row p q v apart some
two_gate-some_row twos.Cphase p q v apart some = controlled_phase-some_row p q v some

pub two_gate-over : (k : Two) (g : List ℕ) (p q : ℕ) (v : Vector) → is_listed g q ≡ true → IsOver g v → IsOver g (two_gate k p q v)
unfolding two_gate
two_gate-over twos.Cnot g p q v inside over = controlled_not-over g p q v inside over
two_gate-over twos.Cphase g p q v inside over = controlled_phase-over g p q v over

-- ---- measurements
-- what is kept has no bit q
pub keep_clear : (q : ℕ) (b : Bool) (v : Vector) (x : ℕ) → is_set q x ≡ true → keep q b v x ≡ zero_coefficient
unfolding keep
keep_clear q b v x e = ap (λ t. cond t zero_coefficient (v (with_bit q b x))) e

pub keep-over : (g : List ℕ) (q : ℕ) (b : Bool) (v : Vector) → IsOver g v → IsOver (without g q) (keep q b v)
unfolding keep
keep-over g q b v over = over_by (without g q) _ (λ r x out e. by r x out e (r == q) refl)
  where
    zero : (t : Bool) (y : Coefficient) → y ≡ zero_coefficient → cond t zero_coefficient y ≡ zero_coefficient
    zero true y e = refl
    zero false y e = e

    by : (r x : ℕ) → is_listed (without g q) r ≡ false → is_set r x ≡ true → (t : Bool) → (r == q) ≡ t → cond (is_set q x) zero_coefficient (v (with_bit q b x)) ≡ zero_coefficient
    by r x out e true f = ap (λ t. cond t zero_coefficient (v (with_bit q b x))) (ap (λ n. is_set n x) (sym (eq_of r q f)) ∙ e)
    by r x out e false f = zero (is_set q x) _ (no_row g v over r (with_bit q b x)
        (sym (is_listed-without g q r ∙ ap (λ c. is_listed g r && not c) f ∙ and_true (is_listed g r)) ∙ out)
        (is_set-with_bit_other r q b x (ne_of r q f) ∙ e))

-- a vector over less is over more
pub over_more : (g h : List ℕ) (v : Vector) → ((x : ℕ) → is_listed h x ≡ false → is_listed g x ≡ false) → IsOver g v → IsOver h v
over_more g h v less over = over_by h v (λ r x out e. no_row g v over r x (less r out) e)

-- what is raised has bit q
pub raised_set : (q : ℕ) (v : Vector) (x : ℕ) → is_set q x ≡ false → raised q v x ≡ zero_coefficient
unfolding raised
raised_set q v x e = ap (λ t. cond t (v (with_bit q false x)) zero_coefficient) e

pub raised-over : (g : List ℕ) (q : ℕ) (v : Vector) → is_listed g q ≡ true → IsOver g v → IsOver g (raised q v)
unfolding raised
raised-over g q v inside over = over_by g _ (λ r x out e. zero (is_set q x) _ (no_row g v over r (with_bit q false x) out (is_set-with_bit_other r q false x (λ is. clash (sym inside ∙ ap (is_listed g) (sym is) ∙ out)) ∙ e)))
  where
    zero : (t : Bool) (y : Coefficient) → y ≡ zero_coefficient → cond t y zero_coefficient ≡ zero_coefficient
    zero true y e = e
    zero false y e = refl

-- raising what is kept loses no row
pub raised-some_row : (q : ℕ) (b : Bool) (v : Vector) → ¬ ((x : ℕ) → keep q b v x ≡ zero_coefficient) → ¬ ((x : ℕ) → raised q (keep q b v) x ≡ zero_coefficient)
unfolding raised
raised-some_row q b v some none = some (λ x. by x (is_set q x) refl)
  where
    again : (x : ℕ) → is_set q x ≡ false → with_bit q false (with_bit q true x) ≡ x
    again x e = same_row _ _ (λ p. at p (p == q) refl)
      where
        at : (p : ℕ) (t : Bool) → (p == q) ≡ t → is_set p (with_bit q false (with_bit q true x)) ≡ is_set p x
        at p true f = ap (λ n. is_set n (with_bit q false (with_bit q true x))) (eq_of p q f) ∙ is_set-with_bit_same q false _ ∙ sym (ap (λ n. is_set n x) (eq_of p q f) ∙ e)
        at p false f = is_set-with_bit_other p q false _ (ne_of p q f) ∙ is_set-with_bit_other p q true x (ne_of p q f)

    by : (x : ℕ) (t : Bool) → is_set q x ≡ t → keep q b v x ≡ zero_coefficient
    by x true e = keep_clear q b v x e
    by x false e = ap (keep q b v) (sym (again x e)) ∙ sym (ap (λ t. cond t (keep q b v (with_bit q false (with_bit q true x))) zero_coefficient) (is_set-with_bit_same q true x)) ∙ none (with_bit q true x)

-- ---- pairs
pub paired-some_row : (g : List ℕ) (p q : ℕ) (v : Vector) → is_listed g p ≡ false → is_listed g q ≡ false → IsOver g v → ¬ ((x : ℕ) → v x ≡ zero_coefficient) → ¬ ((x : ℕ) → paired p q v x ≡ zero_coefficient)
unfolding paired
paired-some_row g p q v out_p out_q over some none = some (λ x. by x (is_set p x) refl (is_set q x) refl)
  where
    by : (x : ℕ) (s : Bool) → is_set p x ≡ s → (t : Bool) → is_set q x ≡ t → v x ≡ zero_coefficient
    by x true e t f = no_row g v over p x out_p e
    by x false e true f = no_row g v over q x out_q f
    by x false e false f =
        sym (ap (λ t. cond t (cond (is_set q x) (v (with_bit p false (with_bit q false x))) zero_coefficient) (cond (is_set q x) zero_coefficient (v x))) e ∙ ap (λ t. cond t zero_coefficient (v x)) f) ∙ none x

pub paired-over : (g : List ℕ) (p q : ℕ) (v : Vector) → IsOver g v → IsOver (g ++ p ∷ q ∷ []) (paired p q v)
unfolding paired is_listed
paired-over g p q v over = over_by (g ++ p ∷ q ∷ []) _ (λ r x out e. by r x out e (is_set p x) (is_set q x))
  where
    unlisted : (r : ℕ) → is_listed (g ++ p ∷ q ∷ []) r ≡ false → (is_listed g r || ((p == r) || ((q == r) || false))) ≡ false
    unlisted r out = sym (is_listed-snoc g (p ∷ q ∷ []) r) ∙ out

    first : (a b c : Bool) → (a || (b || (c || false))) ≡ false → a ≡ false
    first true b c e = cc
    first false b c e = refl

    second : (a b c : Bool) → (a || (b || (c || false))) ≡ false → b ≡ false
    second true b c e = cc
    second false true c e = cc
    second false false c e = refl

    third : (a b c : Bool) → (a || (b || (c || false))) ≡ false → c ≡ false
    third true b c e = cc
    third false true c e = cc
    third false false true e = cc
    third false false false e = refl

    by : (r x : ℕ) → is_listed (g ++ p ∷ q ∷ []) r ≡ false → is_set r x ≡ true → (s t : Bool) → cond s (cond t (v (with_bit p false (with_bit q false x))) zero_coefficient) (cond t zero_coefficient (v x)) ≡ zero_coefficient
    by r x out e true true = let h = unlisted r out in no_row g v over r _ (first _ _ _ h)
        (is_set-with_bit_other r p false _ (λ f. ne_of p r (second _ _ _ h) (sym f)) ∙ is_set-with_bit_other r q false x (λ f. ne_of q r (third _ _ _ h) (sym f)) ∙ e)
    by r x out e true false = refl
    by r x out e false true = refl
    by r x out e false false = no_row g v over r x (first _ _ _ (unlisted r out)) e
