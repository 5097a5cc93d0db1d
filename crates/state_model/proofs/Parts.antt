-- Parts: a vector is its own part on its qubits, a part is unique up to scale, and an operation inside a group makes a part of a part.
use Rattle.std.proofs.Common.{◌≡◌, ◌≢◌, ℕ, ◌==◌, Bool, true, false, ◌&&◌, List, refl, sym, ap, ◌∙◌, arith, ◌≤◌, ◌↔◌}
use Rattle.state_model.specs.Coefficient.{Coefficient, zero_coefficient, ◌⊗◌}
use Rattle.state_model.specs.Row.{is_set, is_listed, within, AgreeOutside}
use Rattle.state_model.specs.StateVector.{Vector, IsPart, IsOver, IsSameState, HasSizeAtLeast, squares_over}
use Rattle.state_model.proofs.Ring.{⊗_comm, ⊗_assoc}
use Rattle.state_model.proofs.Domain.{⊗-domain, ⊗-zero_coefficient, zero_coefficient-⊗}
use Rattle.state_model.proofs.SameStates.{stable, at_some_row, exchange, ⊗-cancel, same_by_ratios, same_symmetric}
use Rattle.state_model.proofs.RowLaws.{same_row, is_set-within, agree_sym}
use Rattle.state_model.proofs.Products.{blend, blend_inside, blend_outside, within_same}
use Rattle.state_model.proofs.Booleans.{and_false, and_true}

-- a row that has no bit outside g is within g
pub within_all : (g : List ℕ) (x : ℕ) → ((p : ℕ) → is_listed g p ≡ false → is_set p x ≡ false) → within g x ≡ x
within_all g x none = same_row _ _ (λ p. is_set-within g p x ∙ by p (is_listed g p) refl)
  where
    by : (p : ℕ) (b : Bool) → is_listed g p ≡ b → (is_set p x && is_listed g p) ≡ is_set p x
    by p true e = ap (λ b. is_set p x && b) e ∙ and_true (is_set p x)
    by p false e = ap (λ b. is_set p x && b) e ∙ and_false (is_set p x) ∙ sym (none p e)

pub no_bit_outside : (g : List ℕ) (x p : ℕ) → within g x ≡ x → is_listed g p ≡ false → is_set p x ≡ false
no_bit_outside g x p at out = ap (is_set p) (sym at) ∙ is_set-within g p x ∙ ap (λ b. is_set p x && b) out ∙ and_false (is_set p x)

-- rows that agree outside g are both within g, or neither
within_along : (g : List ℕ) (x y : ℕ) → AgreeOutside g x y → within g x ≡ x → within g y ≡ y
within_along g x y near at = within_all g y (λ p out. sym (near p out) ∙ no_bit_outside g x p at out)

-- a vector over g is its own part on g
pub whole_part : (g : List ℕ) (v : Vector) → ¬ ((x : ℕ) → v x ≡ zero_coefficient) → IsOver g v → IsPart v g v
whole_part g v some over = record {
  some_row = some;
  over = over;
  ratios = λ x y near. by x y near (within g x == x) refl;
}
  where
    outside : (x : ℕ) → within g x ≢ x → v x ≡ zero_coefficient
    outside x out = stable (v x) zero_coefficient (λ row. out (over x row))

    by : (x y : ℕ) → AgreeOutside g x y → (b : Bool) → (within g x == x) ≡ b → v x ⊗ v (within g y) ≡ v y ⊗ v (within g x)
    by x y near true e =
        let at_x : within g x ≡ x = grind arith in
        let at_y : within g y ≡ y = within_along g x y near at_x in
        ap (λ n. v x ⊗ v n) at_y ∙ ⊗_comm (v x) (v y) ∙ ap (λ n. v y ⊗ v n) (sym at_x)
    by x y near false e =
        let out_x : within g x ≢ x = λ is. grind arith in
        let out_y : within g y ≢ y = λ is. out_x (within_along g y x (agree_sym g x y near) is) in
        ap (λ c. c ⊗ v (within g y)) (outside x out_x) ∙ zero_coefficient-⊗ (v (within g y)) ∙ sym (ap (λ c. c ⊗ v (within g x)) (outside y out_y) ∙ zero_coefficient-⊗ (v (within g x)))

-- a part is unique up to scale
pub part_unique : (g : List ℕ) (v u w : Vector) → ¬ ((x : ℕ) → v x ≡ zero_coefficient) → IsPart v g u → IsPart v g w → IsSameState u w
part_unique g v u w some part other = same_by_ratios u w part.some_row other.some_row (λ x y. by x y (within g x == x) (within g y == y) refl refl)
  where
    outside : (t : Vector) → IsOver g t → (x : ℕ) → (within g x == x) ≡ false → t x ≡ zero_coefficient
    outside t over x e = stable (t x) zero_coefficient (λ row. let f = over x row in absurd (grind arith))

    -- at a row within g, from a row r of v
    at : (t : Vector) → IsPart v g t → (r x : ℕ) → within g x ≡ x → v r ⊗ t x ≡ v (blend g r x) ⊗ t (within g r)
    at t p r x is =
        let z : within g (blend g r x) ≡ x = within_same g (blend g r x) x (λ q inside. blend_inside g q r x inside) ∙ is in
        ap (λ n. v r ⊗ t n) (sym z) ∙ p.ratios r (blend g r x) (λ q out. sym (blend_outside g q r x out))

    products : (r x y : ℕ) → within g x ≡ x → within g y ≡ y → (u x ⊗ w y) ⊗ (v r ⊗ v r) ≡ (v (blend g r x) ⊗ v (blend g r y)) ⊗ (u (within g r) ⊗ w (within g r))
    products r x y at_x at_y =
        exchange (u x) (w y) (v r) (v r) ∙ ap (λ c. c ⊗ (w y ⊗ v r)) (⊗_comm (u x) (v r) ∙ at u part r x at_x) ∙ ap (λ c. (v (blend g r x) ⊗ u (within g r)) ⊗ c) (⊗_comm (w y) (v r) ∙ at w other r y at_y)
        ∙ exchange (v (blend g r x)) (u (within g r)) (v (blend g r y)) (w (within g r))

    inside : (x y : ℕ) → within g x ≡ x → within g y ≡ y → u x ⊗ w y ≡ u y ⊗ w x
    inside x y at_x at_y = at_some_row v (u x ⊗ w y) (u y ⊗ w x) some (λ r row.
        ⊗-cancel (v r ⊗ v r) (u x ⊗ w y) (u y ⊗ w x) (λ e. row (⊗-domain (v r) (v r) row e)) (
        products r x y at_x at_y ∙ ap (λ c. c ⊗ (u (within g r) ⊗ w (within g r))) (⊗_comm (v (blend g r x)) (v (blend g r y))) ∙ sym (products r y x at_y at_x)))

    by : (x y : ℕ) (b c : Bool) → (within g x == x) ≡ b → (within g y == y) ≡ c → u x ⊗ w y ≡ u y ⊗ w x
    by x y true true e f = inside x y (grind arith) (grind arith)
    by x y true false e f = ap (λ c. u x ⊗ c) (outside w other.over y f) ∙ ⊗-zero_coefficient (u x) ∙ sym (ap (λ c. c ⊗ w x) (outside u part.over y f) ∙ zero_coefficient-⊗ (w x))
    by x y false c e f = ap (λ c. c ⊗ w y) (outside u part.over x e) ∙ zero_coefficient-⊗ (w y) ∙ sym (ap (λ c. u y ⊗ c) (outside w other.over x e) ∙ ⊗-zero_coefficient (u y))

-- a vector over g that is the same as a part is a part
pub part_along : (g : List ℕ) (v u w : Vector) → IsPart v g u → IsOver g w → IsSameState u w → IsPart v g w
part_along g v u w part over same = record {
  some_row = λ none. part.some_row (λ x. (same.rows x).1 (none x));
  over = over;
  ratios = λ x y near. at_some_row u (v x ⊗ w (within g y)) (v y ⊗ w (within g x)) part.some_row (λ r row.
      ⊗-cancel (u r) _ _ row (turn r x y ∙ ap (λ k. w r ⊗ k) (part.ratios x y near) ∙ sym (turn r y x)));
}
  where
    turn : (r x y : ℕ) → (v x ⊗ w (within g y)) ⊗ u r ≡ w r ⊗ (v x ⊗ u (within g y))
    turn r x y =
        ⊗_assoc (v x) (w (within g y)) (u r) ∙ ap (λ k. v x ⊗ k) (⊗_comm (w (within g y)) (u r) ∙ same.ratios r (within g y) ∙ ⊗_comm (u (within g y)) (w r))
        ∙ sym (⊗_assoc (v x) (w r) (u (within g y))) ∙ ap (λ k. k ⊗ u (within g y)) (⊗_comm (v x) (w r)) ∙ ⊗_assoc (w r) (v x) (u (within g y))

-- the size of a group is that of any one of its parts: the least of all vectors over the group that are the same as the part
pub size_by_part : (g : List ℕ) (v u : Vector) (n : ℕ) → ¬ ((x : ℕ) → v x ≡ zero_coefficient) → IsPart v g u
    → HasSizeAtLeast v g n ↔ ((w : Vector) → IsOver g w → IsSameState u w → n ≤ squares_over g w)
size_by_part g v u n some part = (
  λ large w over same. large w (part_along g v u w part over same),
  λ each w other. each w other.over (part_unique g v u w some part other),
)

-- a part of a vector is one of each vector that is the same
pub same_part : (v u : Vector) (g : List ℕ) (w : Vector) → IsSameState v u → IsPart v g w → IsPart u g w
same_part v u g w same part = record {
  some_row = part.some_row;
  over = part.over;
  ratios = λ x y near. stable (u x ⊗ w (within g y)) (u y ⊗ w (within g x)) (λ n.
      let none : (r : ℕ) → v r ≡ zero_coefficient = λ r. stable (v r) zero_coefficient (λ row. n (⊗-cancel (v r) _ _ row (turn r x (w (within g y)) ∙ ap (λ k. u r ⊗ k) (part.ratios x y near) ∙ sym (turn r y (w (within g x)))))) in
      let empty : (r : ℕ) → u r ≡ zero_coefficient = λ r. (same.rows r).0 (none r) in
      n (ap (λ k. k ⊗ w (within g y)) (empty x) ∙ zero_coefficient-⊗ (w (within g y)) ∙ sym (ap (λ k. k ⊗ w (within g x)) (empty y) ∙ zero_coefficient-⊗ (w (within g x)))));
}
  where
    turn : (r x : ℕ) (k : Coefficient) → (u x ⊗ k) ⊗ v r ≡ u r ⊗ (v x ⊗ k)
    turn r x k =
        ap (λ t. t ⊗ v r) (⊗_comm (u x) k) ∙ ⊗_assoc k (u x) (v r) ∙ ap (λ t. k ⊗ t) (⊗_comm (u x) (v r) ∙ same.ratios r x ∙ ⊗_comm (v x) (u r))
        ∙ ⊗_comm k (u r ⊗ v x) ∙ ⊗_assoc (u r) (v x) k

-- the sizes of a group in vectors that are the same are the same
pub same_size : (v u : Vector) (g : List ℕ) (n : ℕ) → IsSameState v u → HasSizeAtLeast v g n → HasSizeAtLeast u g n
same_size v u g n same large w part = large w (same_part u v g w (same_symmetric v u same) part)
