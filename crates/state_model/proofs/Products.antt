-- A vector that has a part on each of disjoint groups is, where these are all its qubits, the product of the parts.
use Rattle.std.proofs.Common.{◌≡◌, ◌≢◌, ℕ, ◌==◌, Bool, true, false, cond, ◌&&◌, ◌||◌, List, [], ◌∷◌, refl, sym, ap, subst, ◌∙◌, arith}
use Rattle.state_model.specs.Coefficient.{zero_coefficient, one_coefficient, ◌⊗◌}
use Rattle.state_model.specs.Row.{is_set, with_bit, is_listed, within, AgreeOutside}
use Rattle.state_model.specs.StateVector.{Vector, IsOver, IsSameState}
use Rattle.state_model.specs.Registers.{product_of, product_over, union_of, AreParts, AreDisjoint}
use Rattle.state_model.proofs.Ring.{⊗_comm, ⊗_assoc}
use Rattle.state_model.proofs.Domain.{⊗-domain, ⊗-zero_coefficient}
use Rattle.state_model.proofs.SameStates.{stable, at_some_row}
use Rattle.state_model.proofs.RowLaws.{same_row, is_set-within, is_set-with_bit_same, is_set-with_bit_other}
use Rattle.state_model.proofs.Booleans.{or_false_right, or_false_left, or_true, and_false, and_true}
use Rattle.state_model.proofs.Numbers.{is_listed-snoc}

-- x with the bits of g from y
pub blend : List ℕ → ℕ → ℕ → ℕ
blend [] x y = x
blend (q ∷ g) x y = with_bit q (is_set q y) (blend g x y)

is_set-blend : (g : List ℕ) (p x y : ℕ) → is_set p (blend g x y) ≡ cond (is_listed g p) (is_set p y) (is_set p x)
unfolding blend is_listed
is_set-blend [] p x y = refl
is_set-blend (q ∷ g) p x y = by (q == p) refl (is_set-blend g p x y)
  where
    by : (e : Bool) → (q == p) ≡ e → is_set p (blend g x y) ≡ cond (is_listed g p) (is_set p y) (is_set p x)
        → is_set p (with_bit q (is_set q y) (blend g x y)) ≡ cond ((q == p) || is_listed g p) (is_set p y) (is_set p x)
    by true f before =
        let is : q ≡ p = grind arith in
        subst (λ n. is_set p (with_bit n (is_set n y) (blend g x y)) ≡ is_set p y) (sym is) (is_set-with_bit_same p (is_set p y) (blend g x y))
        ∙ ap (λ b. cond (b || is_listed g p) (is_set p y) (is_set p x)) (sym f)
    by false f before =
        let other : p ≢ q = λ is. grind arith in
        is_set-with_bit_other p q (is_set q y) (blend g x y) other ∙ before ∙ ap (λ b. cond (b || is_listed g p) (is_set p y) (is_set p x)) (sym f)

-- a listed bit comes from y, another from x
pub blend_inside : (g : List ℕ) (p x y : ℕ) → is_listed g p ≡ true → is_set p (blend g x y) ≡ is_set p y
blend_inside g p x y h = is_set-blend g p x y ∙ ap (λ b. cond b (is_set p y) (is_set p x)) h

pub blend_outside : (g : List ℕ) (p x y : ℕ) → is_listed g p ≡ false → is_set p (blend g x y) ≡ is_set p x
blend_outside g p x y h = is_set-blend g p x y ∙ ap (λ b. cond b (is_set p y) (is_set p x)) h

and_cond : (b c d : Bool) → (b ≡ true → c ≡ d) → (c && b) ≡ (d && b)
and_cond true c d h = ap (λ t. t && true) (h refl)
and_cond false true true h = refl
and_cond false true false h = refl
and_cond false false true h = refl
and_cond false false false h = refl

-- rows with the same bits of g are the same within g
pub within_same : (g : List ℕ) (x y : ℕ) → ((p : ℕ) → is_listed g p ≡ true → is_set p x ≡ is_set p y) → within g x ≡ within g y
within_same g x y h = same_row _ _ (λ p. is_set-within g p x ∙ and_cond (is_listed g p) (is_set p x) (is_set p y) (h p) ∙ sym (is_set-within g p y))

-- the other groups do not see the bits of g
product_blind : (g : List ℕ) (us : List (List ℕ × Vector)) (x y : ℕ) → ((p : ℕ) → is_listed g p ≡ true → is_listed (union_of us) p ≡ false) → product_of us (blend g x y) ≡ product_of us x
unfolding product_of union_of is_listed
product_blind g [] x y apart = refl
product_blind g (u ∷ us) x y apart =
    let split = λ (p : ℕ). is_listed-snoc (u.0) (union_of us) p in
    let first = λ (p : ℕ) (h : is_listed g p ≡ true). or_false_left (is_listed (u.0) p) (is_listed (union_of us) p) (sym (split p) ∙ apart p h) in
    let rest = λ (p : ℕ) (h : is_listed g p ≡ true). or_false_right (is_listed (u.0) p) (is_listed (union_of us) p) (sym (split p) ∙ apart p h) in
    let same : within (u.0) (blend g x y) ≡ within (u.0) x = within_same (u.0) (blend g x y) x (λ p inside. is_set-blend g p x y ∙ ap (λ b. cond b (is_set p y) (is_set p x)) (not_in p inside (first p))) in
    ap (λ n. u.1 n ⊗ product_of us (blend g x y)) same ∙ ap (λ c. u.1 (within (u.0) x) ⊗ c) (product_blind g us x y rest)
  where
    not_in : (p : ℕ) → is_listed (u.0) p ≡ true → (is_listed g p ≡ true → is_listed (u.0) p ≡ false) → is_listed g p ≡ false
    not_in p inside h = by (is_listed g p) refl
      where
        by : (b : Bool) → is_listed g p ≡ b → is_listed g p ≡ false
        by true e = let f = h e in cc
        by false e = e

-- rows that agree outside the groups have the ratios of the product
pub product_ratios : (v : Vector) (us : List (List ℕ × Vector)) → AreParts v us → AreDisjoint us
    → (x y : ℕ) → AgreeOutside (union_of us) x y → v x ⊗ product_of us y ≡ v y ⊗ product_of us x
unfolding product_of union_of is_listed
product_ratios v [] parts apart x y same = ap (λ n. v n ⊗ one_coefficient) (same_row x y (λ q. same q refl))
product_ratios v (u ∷ us) parts apart x y same =
    let g = u.0 in
    let z = blend g x y in
    let at_z : within g z ≡ within g y = within_same g z y (λ p inside. blend_inside g p x y inside) in
    let near : AgreeOutside g x z = λ p out. sym (blend_outside g p x y out) in
    let far : AgreeOutside (union_of us) z y = λ p out. by p out (is_listed g p) refl in
    let step : v x ⊗ u.1 (within g y) ≡ v z ⊗ u.1 (within g x) = ap (λ n. v x ⊗ u.1 n) (sym at_z) ∙ (parts.0).ratios x z near in
    sym (⊗_assoc (v x) (u.1 (within g y)) (product_of us y))
    ∙ ap (λ c. c ⊗ product_of us y) step
    ∙ ⊗_assoc (v z) (u.1 (within g x)) (product_of us y)
    ∙ ap (λ c. v z ⊗ c) (⊗_comm (u.1 (within g x)) (product_of us y))
    ∙ sym (⊗_assoc (v z) (product_of us y) (u.1 (within g x)))
    ∙ ap (λ c. c ⊗ u.1 (within g x)) (product_ratios v us (parts.1) (apart.1) z y far ∙ ap (λ c. v y ⊗ c) (product_blind g us x y (apart.0)))
    ∙ ⊗_assoc (v y) (product_of us x) (u.1 (within g x))
    ∙ ap (λ c. v y ⊗ c) (⊗_comm (product_of us x) (u.1 (within g x)))
  where
    by : (p : ℕ) → is_listed (union_of us) p ≡ false → (b : Bool) → is_listed (u.0) p ≡ b → is_set p (blend (u.0) x y) ≡ is_set p y
    by p out true e = blend_inside (u.0) p x y e
    by p out false e = blend_outside (u.0) p x y e ∙ same p (is_listed-snoc (u.0) (union_of us) p ∙ ap (λ b. b || is_listed (union_of us) p) e ∙ out)

pub one_some : one_coefficient ≡ zero_coefficient → ⊥
one_some e = let f = ap (λ t. t.a) e in cc

-- the product of parts has a row
pub product_some_row : (v : Vector) (us : List (List ℕ × Vector)) → AreParts v us → AreDisjoint us → ¬ ((x : ℕ) → product_of us x ≡ zero_coefficient)
unfolding product_of
product_some_row v [] parts apart none = one_some (none 0)
product_some_row v (u ∷ us) parts apart none = product_some_row v us (parts.1) (apart.1) (λ x. stable (product_of us x) zero_coefficient (λ some.
    (parts.0).some_row (λ z. stable (u.1 z) zero_coefficient (λ row. row (
    ap u.1 (sym ((parts.0).over z row))
    ∙ ap u.1 (sym (within_same (u.0) (blend (u.0) x z) z (λ p inside. blend_inside (u.0) p x z inside)))
    ∙ ⊗-domain (product_of us x) (u.1 (within (u.0) (blend (u.0) x z))) some (
    ⊗_comm (product_of us x) (u.1 (within (u.0) (blend (u.0) x z)))
    ∙ ap (λ c. u.1 (within (u.0) (blend (u.0) x z)) ⊗ c) (sym (product_blind (u.0) us x z (apart.0)))
    ∙ none (blend (u.0) x z)))))))

-- the product sees the bits of its groups alone
pub product_within : (us : List (List ℕ × Vector)) (g : List ℕ) (x : ℕ) → ((p : ℕ) → is_listed (union_of us) p ≡ true → is_listed g p ≡ true) → product_of us (within g x) ≡ product_of us x
unfolding product_of union_of
product_within [] g x inside = refl
product_within (u ∷ us) g x inside =
    let split = λ (p : ℕ). is_listed-snoc (u.0) (union_of us) p in
    let same : within (u.0) (within g x) ≡ within (u.0) x = within_same (u.0) (within g x) x (λ p h.
    is_set-within g p x ∙ ap (λ b. is_set p x && b) (inside p (split p ∙ ap (λ b. b || is_listed (union_of us) p) h)) ∙ and_true (is_set p x)) in
    ap (λ n. u.1 n ⊗ product_of us (within g x)) same
    ∙ ap (λ c. u.1 (within (u.0) x) ⊗ c) (product_within us g x (λ p h. inside p (split p ∙ ap (λ b. is_listed (u.0) p || b) h ∙ or_true (is_listed (u.0) p))))

-- rows within g agree outside g
agree_within : (g : List ℕ) (x y : ℕ) → within g x ≡ x → within g y ≡ y → AgreeOutside g x y
agree_within g x y at_x at_y p out = none x at_x ∙ sym (none y at_y)
  where
    none : (z : ℕ) → within g z ≡ z → is_set p z ≡ false
    none z e = ap (is_set p) (sym e) ∙ is_set-within g p z ∙ ap (λ b. is_set p z && b) out ∙ and_false (is_set p z)

-- a vector over the groups is the same state as the product of its parts
pub product_same : (v : Vector) (us : List (List ℕ × Vector)) → ¬ ((x : ℕ) → v x ≡ zero_coefficient) → IsOver (union_of us) v → AreParts v us → AreDisjoint us → IsSameState v (product_over us)
unfolding product_over
product_same v us some over parts apart = record {
  rows = λ x. (
    λ e. at_some_row v (product_over us x) zero_coefficient some (λ y row. ⊗-domain (v y) (product_over us x) row (sym (ratios x y) ∙ ap (λ c. c ⊗ product_over us y) e ∙ ⊗_comm zero_coefficient (product_over us y) ∙ ⊗-zero_coefficient (product_over us y))),
    λ e. at_some_row (product_over us) (v x) zero_coefficient some_product (λ y row. ⊗-domain (product_over us y) (v x) row (⊗_comm (product_over us y) (v x) ∙ ratios x y ∙ ap (λ c. v y ⊗ c) e ∙ ⊗-zero_coefficient (v y))),
  );
  ratios = ratios;
}
  where
    g : List ℕ
    g = union_of us

    outside : (x : ℕ) → (within g x == x) ≡ false → v x ≡ zero_coefficient
    outside x e = stable (v x) zero_coefficient (λ row. let f = over x row in absurd (grind arith))

    both : (x y : ℕ) (b c : Bool) → (within g x == x) ≡ b → (within g y == y) ≡ c
        → v x ⊗ cond c (product_of us y) zero_coefficient ≡ v y ⊗ cond b (product_of us x) zero_coefficient
    both x y true true e f = product_ratios v us parts apart x y (agree_within g x y (grind arith) (grind arith))
    both x y true false e f = ⊗-zero_coefficient (v x) ∙ sym (ap (λ c. c ⊗ product_of us x) (outside y f) ∙ ⊗_comm zero_coefficient (product_of us x) ∙ ⊗-zero_coefficient (product_of us x))
    both x y false true e f = ap (λ c. c ⊗ product_of us y) (outside x e) ∙ ⊗_comm zero_coefficient (product_of us y) ∙ ⊗-zero_coefficient (product_of us y) ∙ sym (⊗-zero_coefficient (v y))
    both x y false false e f = ⊗-zero_coefficient (v x) ∙ sym (⊗-zero_coefficient (v y))

    ratios : (x y : ℕ) → v x ⊗ product_over us y ≡ v y ⊗ product_over us x
    ratios x y = both x y (within g x == x) (within g y == y) refl refl

    some_product : ¬ ((x : ℕ) → product_over us x ≡ zero_coefficient)
    some_product none = product_some_row v us parts apart (λ x.
        let twice : within g (within g x) ≡ within g x = within_same g (within g x) x (λ p h. is_set-within g p x ∙ ap (λ b. is_set p x && b) h ∙ and_true (is_set p x)) in
        let is : (within g (within g x) == within g x) ≡ true = grind arith in
        sym (product_within us g x (λ p h. h)) ∙ sym (ap (λ b. cond b (product_of us (within g x)) zero_coefficient) is) ∙ none (within g x))
