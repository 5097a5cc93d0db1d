-- What acts inside a group makes parts of parts: gates on two qubits, measurements, and products of parts.
use Rattle.std.proofs.Common.{◌≡◌, ◌≢◌, ℕ, ◌==◌, Bool, true, false, not, cond, ◌&&◌, List, refl, sym, ap, ◌∙◌}
use Rattle.state_model.specs.Coefficient.{zero_coefficient, ◌⊗◌, negated}
use Rattle.state_model.specs.Row.{is_set, turned, is_listed, within, AgreeOutside}
use Rattle.state_model.specs.Gate.{two_gate, controlled_not, controlled_phase}
use Rattle.state_model.specs.Registers.{union_of, product_of, product_over}
use Rattle.state_model.specs.Laws.{TwoGatesInsideMakeParts, MeasurementsInsideMakeParts, PartsMakeOne}
use Rattle.state_model.specs.declared.Two.TheVariants as twos
use Rattle.state_model.proofs.Booleans.{clash, eq_true, eq_of, ne_of}
use Rattle.state_model.proofs.RowLaws.{same_row, is_set-within, is_set-within_inside, is_set-turned_same, is_set-turned_other}
use Rattle.state_model.proofs.Linear.{IsInside, part_inside, controlled_not-IsHomogeneous, controlled_phase-IsHomogeneous}
use Rattle.state_model.proofs.Kept.{within_twice}
use Rattle.state_model.proofs.Sizes.{kept_part}
use Rattle.state_model.proofs.Products.{product_ratios, product_some_row, product_within}
use Rattle.state_model.proofs.Operations.{two_gate-some_row, two_gate-over}

-- turning a bit of g changes nothing outside g
agree-turned_inside : (g : List ℕ) (q x : ℕ) → is_listed g q ≡ true → AgreeOutside g (turned q x) x
agree-turned_inside g q x inside p out = is_set-turned_other p q x (λ is. clash (sym inside ∙ ap (is_listed g) (sym is) ∙ out))

-- within g a bit of g is turned as in the row
within-turned_inside : (g : List ℕ) (q x : ℕ) → is_listed g q ≡ true → within g (turned q x) ≡ turned q (within g x)
within-turned_inside g q x inside = same_row _ _ (λ p. at p (p == q) refl)
  where
    at : (p : ℕ) (t : Bool) → (p == q) ≡ t → is_set p (within g (turned q x)) ≡ is_set p (turned q (within g x))
    at p true e =
        ap (λ n. is_set n (within g (turned q x))) (eq_of p q e) ∙ is_set-within_inside g q (turned q x) inside ∙ is_set-turned_same q x
        ∙ sym (ap (λ n. is_set n (turned q (within g x))) (eq_of p q e) ∙ is_set-turned_same q (within g x) ∙ ap not (is_set-within_inside g q x inside))
    at p false e =
        is_set-within g p (turned q x) ∙ ap (λ b. b && is_listed g p) (is_set-turned_other p q x (ne_of p q e))
        ∙ sym (is_set-turned_other p q (within g x) (ne_of p q e) ∙ is_set-within g p x)

controlled_not-IsInside : (g : List ℕ) (p q : ℕ) → is_listed g p ≡ true → is_listed g q ≡ true → IsInside g (controlled_not p q)
unfolding IsInside controlled_not
controlled_not-IsInside g p q in_p in_q v w x reads =
    by (is_set p x) ∙ ap (λ b. w (cond b (turned q (within g x)) (within g x))) (sym (is_set-within_inside g p x in_p))
  where
    by : (t : Bool) → v (cond t (turned q x) x) ≡ w (cond t (turned q (within g x)) (within g x))
    by true = reads (turned q x) (agree-turned_inside g q x in_q) ∙ ap w (within-turned_inside g q x in_q)
    by false = reads x (λ r out. refl)

controlled_phase-IsInside : (g : List ℕ) (p q : ℕ) → is_listed g p ≡ true → is_listed g q ≡ true → IsInside g (controlled_phase p q)
unfolding IsInside controlled_phase
controlled_phase-IsInside g p q in_p in_q v w x reads =
    ap (λ k. cond (is_set p x) (cond (is_set q x) (negated k) k) k) (reads x (λ r out. refl))
    ∙ ap (λ b. cond b (cond (is_set q x) (negated (w (within g x))) (w (within g x))) (w (within g x))) (sym (is_set-within_inside g p x in_p))
    ∙ ap (λ b. cond (is_set p (within g x)) (cond b (negated (w (within g x))) (w (within g x))) (w (within g x))) (sym (is_set-within_inside g q x in_q))

-- a gate on two qubits of a group
pub two_gates_inside_make_parts : TwoGatesInsideMakeParts
two_gates_inside_make_parts twos.Cnot p q g apart in_p in_q v u part = record {
  some_row = two_gate-some_row twos.Cnot p q u apart part.some_row;
  over = two_gate-over twos.Cnot g p q u in_q part.over;
  ratios = unfold two_gate in part_inside (controlled_not p q) g (controlled_not-IsHomogeneous p q) (controlled_not-IsInside g p q in_p in_q) v u part;
}
two_gates_inside_make_parts twos.Cphase p q g apart in_p in_q v u part = record {
  some_row = two_gate-some_row twos.Cphase p q u apart part.some_row;
  over = two_gate-over twos.Cphase g p q u in_q part.over;
  ratios = unfold two_gate in part_inside (controlled_phase p q) g (controlled_phase-IsHomogeneous p q) (controlled_phase-IsInside g p q in_p in_q) v u part;
}

pub measurements_inside_make_parts : MeasurementsInsideMakeParts
measurements_inside_make_parts q b g inside v u some part = kept_part g q b v u inside some part

-- the product of parts is a part on all their groups
pub parts_make_one : PartsMakeOne
parts_make_one v us parts apart = record {
  some_row = λ none. product_some_row v us parts apart (λ x. sym (at x) ∙ none (within (union_of us) x));
  over = λ x row. is_over x row (within (union_of us) x == x) refl;
  ratios = λ x y near. ap (λ k. v x ⊗ k) (at y) ∙ product_ratios v us parts apart x y near ∙ sym (ap (λ k. v y ⊗ k) (at x));
}
  where
    at : (x : ℕ) → product_over us (within (union_of us) x) ≡ product_of us x
    at x = unfold product_over in
        (ap (λ t. cond t (product_of us (within (union_of us) x)) zero_coefficient) (eq_true _ _ (within_twice (union_of us) x)) ∙ product_within us (union_of us) x (λ p h. h))

    is_over : (x : ℕ) → product_over us x ≢ zero_coefficient → (t : Bool) → (within (union_of us) x == x) ≡ t → within (union_of us) x ≡ x
    is_over x row true e = eq_of _ _ e
    is_over x row false e = absurd (row (unfold product_over in ap (λ t. cond t (product_of us x) zero_coefficient) e))
