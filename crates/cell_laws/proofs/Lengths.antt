-- Lists of distinct numbers with the same members: as long, with the same sums over rows, and the same sizes.
--     same_length          as long
--     weight_on-members    the same sums of weights over their rows
--     same_members_size    the same sizes
use Prim.Native.Nat.{suc}
use Rattle.std.proofs.Common.{◌≡◌, ◌≢◌, ℕ, ◌≤◌, ◌==◌, Bool, true, false, not, ◌&&◌, ◌||◌, List, [], ◌∷◌, ◌++◌, length, pos, nat_abs, refl, sym, ap, subst, ◌∙◌, arith}
use mathlib.Core.Path.{fun_ext}
use borrow.Author.Differences.{ints}
use Rattle.state_model.specs.Coefficient.{◌⊗◌, Weight, weight, weight_sum}
use Rattle.state_model.specs.Row.{is_set, with_bit, is_listed, within, rows_of, without}
use Rattle.state_model.specs.StateVector.{Vector, IsPart, IsOver, HasSizeAtLeast, squares_over}
use Rattle.state_model.specs.Amplitudes.{AreDistinct}
use Rattle.state_model.proofs.Booleans.{and_false, and_true, clash, eq_true, eq_false, eq_of, ne_of, or_true}
use Rattle.state_model.proofs.Draws.{same_weight}
use Rattle.state_model.proofs.Numbers.{is_listed-without, is_listed-snoc}
use Rattle.state_model.proofs.Registers.{AreDistinct as AreDistinctRows}
use Rattle.state_model.proofs.RegisterSums.{weight_on, weight_of-rows, squares-weight_of}
use Rattle.state_model.proofs.RowLaws.{same_row, is_set-within, is_set-with_bit_same, is_set-with_bit_other}
use Rattle.state_model.proofs.Sizes.{without-same, without-other, without_absent, with_bit_swap}

-- two lists have the same members
abbrev pub HaveSameMembers : List ℕ → List ℕ → Type 0
HaveSameMembers a b = (q : ℕ) → is_listed a q ≡ is_listed b q

pub distinct_rows : (g : List ℕ) → AreDistinct g → AreDistinctRows g
distinct_rows [] apart = tt
distinct_rows (p ∷ g) apart = (apart.0, distinct_rows g (apart.1))

pub distinct_of_rows : (g : List ℕ) → AreDistinctRows g → AreDistinct g
distinct_of_rows [] apart = tt
distinct_of_rows (p ∷ g) apart = (apart.0, distinct_of_rows g (apart.1))

pub first_listed : (q : ℕ) (g : List ℕ) → is_listed (q ∷ g) q ≡ true
unfolding is_listed
first_listed q g = ap (λ b. b || is_listed g q) (eq_true q q refl)

pub then_listed : (q : ℕ) (g : List ℕ) (x : ℕ) → is_listed g x ≡ true → is_listed (q ∷ g) x ≡ true
unfolding is_listed
then_listed q g x h = ap (λ b. (q == x) || b) h ∙ or_true (q == x)

-- distinct numbers, then others
pub distinct_append : (a b : List ℕ) → AreDistinct a → AreDistinct b → ((p : ℕ) → is_listed a p ≡ true → is_listed b p ≡ false) → AreDistinct (a ++ b)
unfolding is_listed
distinct_append [] b apart other none = other
distinct_append (p ∷ a) b apart other none = (
  is_listed-snoc a b p ∙ ap (λ t. t || is_listed b p) (apart.0) ∙ none p (first_listed p a),
  distinct_append a b (apart.1) other (λ r h. none r (then_listed p a r h)),
)

-- ---- without a number
pub distinct_without : (g : List ℕ) (q : ℕ) → AreDistinct g → AreDistinct (without g q)
distinct_without [] q apart = unfold without in tt
distinct_without (p ∷ g) q apart = by (p == q) refl (distinct_without g q (apart.1))
  where
    by : (t : Bool) → (p == q) ≡ t → AreDistinct (without g q) → AreDistinct (without (p ∷ g) q)
    by true e rest = subst AreDistinct (sym (without-same g p q e)) rest
    by false e rest = subst AreDistinct (sym (without-other g p q e)) (is_listed-without g q p ∙ ap (λ b. b && not (p == q)) (apart.0), rest)

pub length_without : (g : List ℕ) (q : ℕ) → AreDistinct g → is_listed g q ≡ true → length g ≡ suc (length (without g q))
unfolding is_listed
length_without [] q apart inside = cc
length_without (p ∷ g) q apart inside = by (p == q) refl (λ h. length_without g q (apart.1) h)
  where
    by : (t : Bool) → (p == q) ≡ t → (is_listed g q ≡ true → length g ≡ suc (length (without g q))) → suc (length g) ≡ suc (length (without (p ∷ g) q))
    by true e again =
        let out : is_listed g q ≡ false = ap (is_listed g) (sym (eq_of p q e)) ∙ apart.0 in
        ap (λ l. suc (length l)) (sym (without-same g p q e ∙ without_absent g q out))
    by false e again = ap suc (again (sym (ap (λ b. b || is_listed g q) e) ∙ inside)) ∙ ap (λ l. suc (length l)) (sym (without-other g p q e))

-- the rest of a list, and a list with the same members without the first
rest_members : (q : ℕ) (a b : List ℕ) → is_listed a q ≡ false → HaveSameMembers (q ∷ a) b → HaveSameMembers a (without b q)
unfolding is_listed
rest_members q a b out same x = by (q == x) refl ∙ sym (is_listed-without b q x)
  where
    by : (t : Bool) → (q == x) ≡ t → is_listed a x ≡ (is_listed b x && not (x == q))
    by true e = ap (is_listed a) (sym (eq_of q x e)) ∙ out ∙ sym (ap (λ c. is_listed b x && not c) (eq_true x q (sym (eq_of q x e))) ∙ and_false (is_listed b x))
    by false e = sym (ap (λ c. c || is_listed a x) e) ∙ same x ∙ sym (ap (λ c. is_listed b x && not c) (eq_false x q (λ f. ne_of q x e (sym f))) ∙ and_true (is_listed b x))

no_members : (b : List ℕ) → HaveSameMembers [] b → b ≡ []
unfolding is_listed
no_members [] same = refl
no_members (q ∷ b) same = absurd (clash (sym (first_listed q b) ∙ sym (same q)))

-- as long
pub same_length : (a b : List ℕ) → AreDistinct a → AreDistinct b → HaveSameMembers a b → length a ≡ length b
same_length [] b apart other same = ap length (sym (no_members b same))
same_length (q ∷ a) b apart other same =
    ap suc (same_length a (without b q) (apart.1) (distinct_without b q other) (rest_members q a b (apart.0) same))
    ∙ sym (length_without b q other (sym (same q) ∙ first_listed q a))

-- ---- sums over rows
pub middle : (a b c d : Weight) → weight_sum (weight_sum a b) (weight_sum c d) ≡ weight_sum (weight_sum a c) (weight_sum b d)
middle a b c d = same_weight _ _ (omega (arith, ints)) (omega (arith, ints))

-- a sum by the bit of one member
pub weight_on-member : (g : List ℕ) (q : ℕ) → AreDistinct g → is_listed g q ≡ true → (f : ℕ → Weight)
    → weight_on g f ≡ weight_sum (weight_on (without g q) f) (weight_on (without g q) (λ x. f (with_bit q true x)))
unfolding is_listed weight_on
weight_on-member [] q apart inside f = cc
weight_on-member (p ∷ g) q apart inside f = by (p == q) refl (λ h. weight_on-member g q (apart.1) h)
  where
    by : (t : Bool) → (p == q) ≡ t → (is_listed g q ≡ true → (f : ℕ → Weight) → weight_on g f ≡ weight_sum (weight_on (without g q) f) (weight_on (without g q) (λ x. f (with_bit q true x))))
        → weight_sum (weight_on g f) (weight_on g (λ x. f (with_bit p true x))) ≡ weight_sum (weight_on (without (p ∷ g) q) f) (weight_on (without (p ∷ g) q) (λ x. f (with_bit q true x)))
    by true e again =
        let is : p ≡ q = eq_of p q e in
        let out : is_listed g q ≡ false = ap (is_listed g) (sym is) ∙ apart.0 in
        ap (λ n. weight_sum (weight_on g f) (weight_on g (λ x. f (with_bit n true x)))) is
        ∙ ap (λ l. weight_sum (weight_on l f) (weight_on l (λ x. f (with_bit q true x)))) (sym (without-same g p q e ∙ without_absent g q out))
    by false e again =
        let i : is_listed g q ≡ true = sym (ap (λ b. b || is_listed g q) e) ∙ inside in
        let h = without g q in
        ap (λ w. weight_sum w (weight_on g (λ x. f (with_bit p true x)))) (again i f)
        ∙ ap (weight_sum (weight_sum (weight_on h f) (weight_on h (λ x. f (with_bit q true x))))) (again i (λ x. f (with_bit p true x)))
        ∙ middle (weight_on h f) (weight_on h (λ x. f (with_bit q true x))) (weight_on h (λ x. f (with_bit p true x))) (weight_on h (λ x. f (with_bit p true (with_bit q true x))))
        ∙ ap (λ (k : ℕ → ℕ). weight_sum (weight_sum (weight_on h f) (weight_on h (λ x. f (with_bit p true x)))) (weight_sum (weight_on h (λ x. f (with_bit q true x))) (weight_on h (λ x. f (k x)))))
        (fun_ext (λ x. with_bit_swap p true q true x (ne_of p q e)))
        ∙ ap (λ l. weight_sum (weight_on l f) (weight_on l (λ x. f (with_bit q true x)))) (sym (without-other g p q e))

-- the same sums over rows
pub weight_on-members : (a b : List ℕ) → AreDistinct a → AreDistinct b → HaveSameMembers a b → (f : ℕ → Weight) → weight_on a f ≡ weight_on b f
unfolding weight_on
weight_on-members [] b apart other same f = ap (λ l. weight_on l f) (sym (no_members b same))
weight_on-members (q ∷ a) b apart other same f =
    let again = weight_on-members a (without b q) (apart.1) (distinct_without b q other) (rest_members q a b (apart.0) same) in
    ap (λ w. weight_sum w (weight_on a (λ x. f (with_bit q true x)))) (again f)
    ∙ ap (weight_sum (weight_on (without b q) f)) (again (λ x. f (with_bit q true x)))
    ∙ sym (weight_on-member b q other (sym (same q) ∙ first_listed q a) f)

-- the sum of squares by weights
pub squares_over-weights : (g : List ℕ) (u : Vector) → pos (squares_over g u) ≡ (weight_on g (λ x. weight (u x))).x
unfolding squares_over
squares_over-weights g u = sym (squares-weight_of u (rows_of g)) ∙ ap (λ (w : Weight). w.x) (weight_of-rows g u)

pub squares_over-same : (a b : List ℕ) (u w : Vector) → weight_on a (λ x. weight (u x)) ≡ weight_on b (λ x. weight (w x)) → squares_over a u ≡ squares_over b w
squares_over-same a b u w e = ap nat_abs (squares_over-weights a u ∙ ap (λ (t : Weight). t.x) e ∙ sym (squares_over-weights b w))

-- ---- sizes
pub within_members : (a b : List ℕ) → HaveSameMembers a b → (x : ℕ) → within a x ≡ within b x
within_members a b same x = same_row _ _ (λ p. is_set-within a p x ∙ ap (λ c. is_set p x && c) (same p) ∙ sym (is_set-within b p x))

pub over_members : (a b : List ℕ) (v : Vector) → HaveSameMembers a b → IsOver a v → IsOver b v
over_members a b v same over x row = sym (within_members a b same x) ∙ over x row

pub part_members : (a b : List ℕ) (v u : Vector) → HaveSameMembers a b → IsPart v a u → IsPart v b u
part_members a b v u same part = record {
  some_row = part.some_row;
  over = over_members a b u same part.over;
  ratios = λ x y near.
      ap (λ n. v x ⊗ u n) (sym (within_members a b same y)) ∙ part.ratios x y (λ q out. near q (sym (same q) ∙ out)) ∙ ap (λ n. v y ⊗ u n) (within_members a b same x);
}

-- the same sizes
pub same_members_size : (a b : List ℕ) (v : Vector) (n : ℕ) → AreDistinct a → AreDistinct b → HaveSameMembers a b → HasSizeAtLeast v a n → HasSizeAtLeast v b n
same_members_size a b v n apart other same large u part =
    subst (λ m. n ≤ m) (squares_over-same a b u u (weight_on-members a b apart other same (λ x. weight (u x))))
    (large u (part_members b a v u (λ q. sym (same q)) part))
