-- The list of products stands for the product of two vectors over qubits that are listed one after the other.
use Rattle.std.proofs.Common.{◌≡◌, ℕ, ◌+◌, ◌*◌, ◌<◌, ◌^◌, ◌==◌, true, false, cond, ◌&&◌, ◌||◌, List, [], ◌∷◌, ◌++◌, length, refl, sym, ap, subst, ◌∙◌, arith}
use Rattle.std.proofs.Math.Nat.{pow-succ'}
use Rattle.std.proofs.lemmas.List.{append-nil, length-append}
use Rattle.std.proofs.lemmas.Nat.{pow-add}
use Rattle.state_model.specs.Coefficient.{Coefficient, zero_coefficient, one_coefficient, ◌⊗◌}
use Rattle.state_model.specs.CoefficientList.{at}
use Rattle.state_model.specs.Row.{is_set, is_listed, within}
use Rattle.state_model.specs.StateVector.{Vector}
use Rattle.state_model.specs.Registers.{register_row, register_vector, union_of, product_of, product_over}
use Rattle.state_model.specs.Amplitudes.{Amplitudes, vector_of, AreDistinct, HasRows}
use Rattle.state_model.proofs.Booleans.{and_true, or_true, eq_true}
use Rattle.state_model.proofs.Euclid.{one-⊗}
use Rattle.state_model.proofs.Numbers.{is_listed-snoc}
use Rattle.state_model.proofs.Products.{within_same}
use Rattle.state_model.proofs.RegisterLists.{register_row-below}
use Rattle.state_model.proofs.RegisterSums.{vector-within}
use Rattle.state_model.proofs.Ring.{⊗_comm}
use Rattle.state_model.proofs.RowLaws.{is_set-within, is_set-within_inside}
use Rattle.register_merge.specs.Merging.{AreApart, merged, products}
use Rattle.register_merge.proofs.ProductLists.{length_products, at_products}

-- ---- rows
within_twice : (g : List ℕ) (x : ℕ) → within g (within g x) ≡ within g x
within_twice g x = within_same g (within g x) x (λ p h. is_set-within g p x ∙ ap (λ b. is_set p x && b) h ∙ and_true (is_set p x))

row_within : (qs g : List ℕ) (x : ℕ) → ((q : ℕ) → is_listed qs q ≡ true → is_listed g q ≡ true) → register_row qs (within g x) ≡ register_row qs x
unfolding register_row is_listed
row_within [] g x inside = refl
row_within (q ∷ qs) g x inside =
    ap (λ b. cond b 1 0 + 2 * register_row qs (within g x)) (is_set-within_inside g q x (inside q (ap (λ b. b || is_listed qs q) (eq_true q q refl))))
    ∙ ap (λ n. cond (is_set q x) 1 0 + 2 * n) (row_within qs g x (λ p h. inside p (ap (λ b. (q == p) || b) h ∙ or_true (q == p))))

pub row_append : (qs ps : List ℕ) (x : ℕ) → register_row (qs ++ ps) x ≡ 2 ^ length qs * register_row ps x + register_row qs x
unfolding register_row
row_append [] ps x = one (register_row ps x)
  where
    one : (n : ℕ) → n ≡ 1 * n + 0
    one n = omega arith
row_append (q ∷ qs) ps x = ap (λ n. cond (is_set q x) 1 0 + 2 * n) (row_append qs ps x) ∙ next (cond (is_set q x) 1 0) (2 ^ length qs) (register_row ps x) (register_row qs x) ∙ ap (λ n. n * register_row ps x + (cond (is_set q x) 1 0 + 2 * register_row qs x)) (sym (pow-succ' 2 (length qs)))
  where
    next : (b p r s : ℕ) → b + 2 * (p * r + s) ≡ 2 * p * r + (b + 2 * s)
    next b p r s = omega arith

-- ---- vectors
product_over_two : (qs ps : List ℕ) (v w : Vector) (x : ℕ) → product_over ((qs, v) ∷ (ps, w) ∷ []) x ≡ cond (within (qs ++ ps) x == x) (v (within qs x) ⊗ w (within ps x)) zero_coefficient
unfolding product_over product_of union_of
product_over_two qs ps v w x =
    ap (λ (g : List ℕ). cond (within (qs ++ g) x == x) (v (within qs x) ⊗ (w (within ps x) ⊗ one_coefficient)) zero_coefficient) (append-nil ps)
    ∙ ap (λ (z : Coefficient). cond (within (qs ++ ps) x == x) (v (within qs x) ⊗ z) zero_coefficient) (⊗_comm (w (within ps x)) one_coefficient ∙ one-⊗ (w (within ps x)))

vector_at_row : (qs : List ℕ) (list : List Coefficient) (x : ℕ) → register_vector qs list (within qs x) ≡ at list (register_row qs x)
vector_at_row qs list x = vector-within qs list (within qs x) (within_twice qs x) ∙ ap (at list) (row_within qs qs x (λ q h. h))

pub product_vector : (a b : Amplitudes) → HasRows a → (x : ℕ) → register_vector (a.qubits ++ b.qubits) (products a.list b.list) x ≡ merged a b x
product_vector a b rows x =
    whole ∙ ap (λ (z : Coefficient). cond (within (a.qubits ++ b.qubits) x == x) z zero_coefficient) inner
    ∙ sym (product_over_two a.qubits b.qubits (vector_of a) (vector_of b) x)
  where
    whole : register_vector (a.qubits ++ b.qubits) (products a.list b.list) x ≡ cond (within (a.qubits ++ b.qubits) x == x) (at (products a.list b.list) (register_row (a.qubits ++ b.qubits) x)) zero_coefficient
    whole = unfold register_vector in refl

    inner : at (products a.list b.list) (register_row (a.qubits ++ b.qubits) x) ≡ vector_of a (within a.qubits x) ⊗ vector_of b (within b.qubits x)
    inner =
        ap (at (products a.list b.list)) (row_append a.qubits b.qubits x ∙ ap (λ n. n * register_row b.qubits x + register_row a.qubits x) (sym rows.rows))
        ∙ at_products a.list b.list (register_row a.qubits x) (register_row b.qubits x) (subst (λ n. register_row a.qubits x < n) (sym rows.rows) (register_row-below a.qubits x))
        ∙ sym (ap (λ (z : Coefficient). z ⊗ vector_of b (within b.qubits x)) (vector_at_row a.qubits a.list x) ∙ ap (λ (z : Coefficient). at a.list (register_row a.qubits x) ⊗ z) (vector_at_row b.qubits b.list x))

-- ---- qubits and rows of both
pub distinct_append : (qs ps : List ℕ) → AreDistinct qs → AreDistinct ps → ((q : ℕ) → is_listed qs q ≡ true → is_listed ps q ≡ false) → AreDistinct (qs ++ ps)
unfolding is_listed
distinct_append [] ps h k apart = k
distinct_append (q ∷ qs) ps h k apart = (
  is_listed-snoc qs ps q ∙ ap (λ b. b || is_listed ps q) (h.0) ∙ apart q (ap (λ b. b || is_listed qs q) (eq_true q q refl)),
  distinct_append qs ps (h.1) k (λ p l. apart p (ap (λ b. (q == p) || b) l ∙ or_true (q == p))),
)

pub product_rows : (a b : Amplitudes) → HasRows a → HasRows b → length a.list * length b.list ≡ 2 ^ length (a.qubits ++ b.qubits)
product_rows a b h k =
    ap (λ n. n * length b.list) h.rows ∙ ap (λ n. 2 ^ length a.qubits * n) k.rows ∙ sym (pow-add 2 (length a.qubits) (length b.qubits))
    ∙ ap (λ n. 2 ^ n) (sym (length-append a.qubits b.qubits))

pub product_has_rows : (a b : Amplitudes) → HasRows a → HasRows b → AreApart a b → HasRows record { qubits = a.qubits ++ b.qubits; list = products a.list b.list }
product_has_rows a b h k apart = record {
  rows = length_products a.list b.list ∙ product_rows a b h k;
  distinct = distinct_append a.qubits b.qubits h.distinct k.distinct apart;
}
