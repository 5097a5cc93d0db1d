-- Equality up to scale and phase is an equivalence on vectors with a row, and each homogeneous operation respects it.
use Rattle.std.proofs.Common.{◌≡◌, ◌≢◌, ℕ, ℤ, refl, sym, ap, ◌∙◌, arith}
use lib.IntN.{ℤ_discrete}
use borrow.Author.Differences.{ints}
use Rattle.state_model.specs.Coefficient.{Coefficient, zero_coefficient, ◌⊕◌, ◌⊗◌, negated}
use Rattle.state_model.specs.StateVector.{Vector, IsSameState}
use Rattle.state_model.proofs.Ring.{same_coordinates, ⊗_comm, ⊗_assoc, ⊗-⊕}
use Rattle.state_model.proofs.Domain.{⊗-domain, ⊗-zero_coefficient}
use Rattle.state_model.proofs.Linear.{IsHomogeneous, same_ratios, half_ratios, negated_times}

ℤ_stable : (a b : ℤ) → ¬ (a ≢ b) → a ≡ b
ℤ_stable a b h = elim (ℤ_discrete a b) [ yes e ↦ e | no n ↦ absurd (h n) ]

-- an equation of coefficients that is not false holds
pub stable : (y z : Coefficient) → ¬ (y ≢ z) → y ≡ z
stable y z h = same_coordinates y z
    (ℤ_stable _ _ (λ n. h (λ e. n (ap (λ t. t.a) e))))
    (ℤ_stable _ _ (λ n. h (λ e. n (ap (λ t. t.b) e))))
    (ℤ_stable _ _ (λ n. h (λ e. n (ap (λ t. t.c) e))))
    (ℤ_stable _ _ (λ n. h (λ e. n (ap (λ t. t.d) e))))

-- an equation that holds at each row with a coefficient holds where there is such a row
pub at_some_row : (v : Vector) (y z : Coefficient) → ¬ ((x : ℕ) → v x ≡ zero_coefficient) → ((x : ℕ) → v x ≢ zero_coefficient → y ≡ z) → y ≡ z
at_some_row v y z some each = stable y z (λ n. some (λ x. stable (v x) zero_coefficient (λ h. n (each x h))))

difference_zero : (y z : Coefficient) → y ⊕ negated z ≡ zero_coefficient → y ≡ z
difference_zero y z e = same_coordinates y z
    (let h = ap (λ t. t.a) e in omega (arith, ints))
    (let h = ap (λ t. t.b) e in omega (arith, ints))
    (let h = ap (λ t. t.c) e in omega (arith, ints))
    (let h = ap (λ t. t.d) e in omega (arith, ints))

difference_self : (y : Coefficient) → y ⊕ negated y ≡ zero_coefficient
difference_self y = same_coordinates _ _ (omega (arith, ints)) (omega (arith, ints)) (omega (arith, ints)) (omega (arith, ints))

-- a factor other than zero cancels
pub ⊗-cancel : (k y z : Coefficient) → k ≢ zero_coefficient → y ⊗ k ≡ z ⊗ k → y ≡ z
⊗-cancel k y z h e =
    difference_zero y z (⊗-domain k (y ⊕ negated z) h (
    ⊗-⊕ k y (negated z) ∙ ap (λ c. c ⊕ k ⊗ negated z) (⊗_comm k y ∙ e) ∙ ap (λ c. z ⊗ k ⊕ c) (⊗_comm k (negated z) ∙ negated_times z k) ∙ difference_self (z ⊗ k)))

pub same_reflexive : (v : Vector) → IsSameState v v
same_reflexive v = record { rows = λ x. (λ e. e, λ e. e); ratios = λ x y. ⊗_comm (v x) (v y) ∙ swap x y }
  where
    swap : (x y : ℕ) → v y ⊗ v x ≡ v y ⊗ v x
    swap x y = refl

pub same_symmetric : (v u : Vector) → IsSameState v u → IsSameState u v
same_symmetric v u s = record {
  rows = λ x. ((s.rows x).1, (s.rows x).0);
  ratios = λ x y. ⊗_comm (u x) (v y) ∙ sym (s.ratios x y) ∙ ⊗_comm (v x) (u y);
}

-- the products of two pairs, the inner factors exchanged
pub exchange : (a b c d : Coefficient) → (a ⊗ b) ⊗ (c ⊗ d) ≡ (a ⊗ c) ⊗ (b ⊗ d)
exchange a b c d =
    ⊗_assoc a b (c ⊗ d) ∙ ap (λ t. a ⊗ t) (sym (⊗_assoc b c d) ∙ ap (λ t. t ⊗ d) (⊗_comm b c) ∙ ⊗_assoc c b d) ∙ sym (⊗_assoc a c (b ⊗ d))

pub same_transitive : (v u w : Vector) → ¬ ((x : ℕ) → u x ≡ zero_coefficient) → IsSameState v u → IsSameState u w → IsSameState v w
same_transitive v u w some s t = record {
  rows = λ x. (λ e. (t.rows x).0 ((s.rows x).0 e), λ e. (s.rows x).1 ((t.rows x).1 e));
  ratios = λ x y. at_some_row u (v x ⊗ w y) (v y ⊗ w x) some (λ r h.
      ⊗-cancel (u r) (v x ⊗ w y) (v y ⊗ w x) h (⊗-cancel (u r) ((v x ⊗ w y) ⊗ u r) ((v y ⊗ w x) ⊗ u r) h (turn x y r ∙ sym (turn y x r ∙ other x y r))));
}
  where
    turn : (x y r : ℕ) → ((v x ⊗ w y) ⊗ u r) ⊗ u r ≡ (v r ⊗ w r) ⊗ (u x ⊗ u y)
    turn x y r =
        ⊗_assoc (v x ⊗ w y) (u r) (u r) ∙ exchange (v x) (w y) (u r) (u r)
        ∙ ap (λ c. c ⊗ (w y ⊗ u r)) (s.ratios x r)
        ∙ ap (λ c. (v r ⊗ u x) ⊗ c) (⊗_comm (w y) (u r) ∙ t.ratios r y ∙ ⊗_comm (u y) (w r))
        ∙ exchange (v r) (u x) (w r) (u y)

    other : (x y r : ℕ) → (v r ⊗ w r) ⊗ (u y ⊗ u x) ≡ (v r ⊗ w r) ⊗ (u x ⊗ u y)
    other x y r = ap (λ c. (v r ⊗ w r) ⊗ c) (⊗_comm (u y) (u x))

zero_along : (op : Vector → Vector) → IsHomogeneous op → (v u : Vector) → ¬ ((x : ℕ) → v x ≡ zero_coefficient) → ((x y : ℕ) → v x ⊗ u y ≡ v y ⊗ u x) → (x : ℕ) → op v x ≡ zero_coefficient → op u x ≡ zero_coefficient
zero_along op h v u some same x e = at_some_row v (op u x) zero_coefficient some (λ y row.
    ⊗-domain (v y) (op u x) row (sym (half_ratios op h v u same x y) ∙ ap (λ c. c ⊗ u y) e ∙ ⊗_comm zero_coefficient (u y) ∙ ⊗-zero_coefficient (u y)))

-- each homogeneous operation takes same states to same states
pub same_after : (op : Vector → Vector) → IsHomogeneous op → (v u : Vector) → ¬ ((x : ℕ) → v x ≡ zero_coefficient) → IsSameState v u → IsSameState (op v) (op u)
same_after op h v u some s =
    let some_u : ¬ ((x : ℕ) → u x ≡ zero_coefficient) = λ none. some (λ x. (s.rows x).1 (none x)) in
    let t = same_symmetric v u s in
    record {
      rows = λ x. (zero_along op h v u some s.ratios x, zero_along op h u v some_u t.ratios x);
      ratios = same_ratios op h v u s.ratios;
    }

-- vectors with rows and equal ratios are the same
pub same_by_ratios : (v u : Vector) → ¬ ((x : ℕ) → v x ≡ zero_coefficient) → ¬ ((x : ℕ) → u x ≡ zero_coefficient) → ((x y : ℕ) → v x ⊗ u y ≡ v y ⊗ u x) → IsSameState v u
same_by_ratios v u some other ratios = record {
  rows = λ x. (
    λ e. at_some_row v (u x) zero_coefficient some (λ y row. ⊗-domain (v y) (u x) row (sym (ratios x y) ∙ ap (λ c. c ⊗ u y) e ∙ ⊗_comm zero_coefficient (u y) ∙ ⊗-zero_coefficient (u y))),
    λ e. at_some_row u (v x) zero_coefficient other (λ y row. ⊗-domain (u y) (v x) row (⊗_comm (u y) (v x) ∙ ratios x y ∙ ap (λ c. v y ⊗ c) e ∙ ⊗-zero_coefficient (v y))),
  );
  ratios = ratios;
}
