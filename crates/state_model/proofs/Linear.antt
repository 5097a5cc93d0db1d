-- Operations on vectors that are homogeneous, that act elsewhere than on a group, or inside it: what they keep.
use Rattle.std.proofs.Common.{◌≡◌, ℕ, Bool, true, false, List, cond, refl, sym, ap, ◌∙◌, arith}
use borrow.Author.Differences.{same_in, sum_is_lem, neg_is}
use Rattle.state_model.proofs.Integers.{expand}
use mathlib.Core.Path.{fun_ext}
use Rattle.state_model.specs.Coefficient.{Coefficient, zero_coefficient, ◌⊕◌, ◌⊗◌, negated}
use Rattle.state_model.specs.Row.{is_set, with_bit, turned, is_listed, within, AgreeOutside}
use Rattle.state_model.specs.StateVector.{Vector, IsPart}
use Rattle.state_model.specs.Gate.{Matrix, entry, gate, controlled_not, controlled_phase, two_gate}
use Rattle.state_model.specs.declared.Two.{Two}
use Rattle.state_model.specs.declared.Two.TheVariants as twos
use Rattle.state_model.specs.Measurement.{keep, raised, paired}
use Rattle.state_model.proofs.Ring.{same_coordinates, ⊗_comm, ⊗_assoc, ⊗-⊕}
use Rattle.state_model.proofs.Domain.{zero_coefficient-⊗}
use Rattle.state_model.proofs.RowLaws.{agree-turned, within-turned_outside, agree-with_bit, within-with_bit_outside, within-with_bit_inside, is_set-agree, is_set-within_inside, agree-with_bit_inside, agree_trans, agree_sym}

-- the operation of a vector times k is the result times k
pub IsHomogeneous : (Vector → Vector) → Type 0
IsHomogeneous op = (v : Vector) (k : Coefficient) (x : ℕ) → op v x ⊗ k ≡ op (λ r. v r ⊗ k) x

-- the operation acts on qubits outside g: at x it reads rows whose bits of g are those of x, in the same way for all of these
pub IsElsewhere : List ℕ → (Vector → Vector) → Type 0
IsElsewhere g op = (v w : Vector) (x y : ℕ) → AgreeOutside g x y
    → ((r s : ℕ) → AgreeOutside g r s → within g r ≡ within g x → within g s ≡ within g y → v r ≡ w s)
    → op v x ≡ op w y

-- the operation acts on qubits of g: at x it reads rows that agree with x outside g, as on the rows within g
unfoldable pub IsInside : List ℕ → (Vector → Vector) → Type 0
IsInside g op = (v w : Vector) (x : ℕ)
    → ((r : ℕ) → AgreeOutside g r x → v r ≡ w (within g r))
    → op v x ≡ op w (within g x)

-- the ratios between an operation's vector and the other vector
pub half_ratios : (op : Vector → Vector) → IsHomogeneous op → (v u : Vector)
    → ((x y : ℕ) → v x ⊗ u y ≡ v y ⊗ u x) → (x y : ℕ) → op v x ⊗ u y ≡ v y ⊗ op u x
unfolding IsHomogeneous
half_ratios op h v u same x y =
    h v (u y) x ∙ ap (λ f. op f x) (fun_ext (λ r. same r y ∙ ⊗_comm (v y) (u r))) ∙ sym (h u (v y) x) ∙ ⊗_comm (op u x) (v y)

-- such an operation takes the same states to the same ratios
pub same_ratios : (op : Vector → Vector) → IsHomogeneous op → (v u : Vector)
    → ((x y : ℕ) → v x ⊗ u y ≡ v y ⊗ u x) → (x y : ℕ) → op v x ⊗ op u y ≡ op v y ⊗ op u x
unfolding IsHomogeneous
same_ratios op h v u same x y =
    ⊗_comm (op v x) (op u y) ∙ h u (op v x) y ∙ ap (λ f. op f y) (fun_ext (λ r. ⊗_comm (u r) (op v x) ∙ half_ratios op h v u same x r)) ∙ sym (h v (op u x) y)

-- a part stays a part under operations elsewhere
pub part_elsewhere : (op : Vector → Vector) (g : List ℕ) → IsHomogeneous op → IsElsewhere g op
    → (v u : Vector) → IsPart v g u → IsPart (op v) g u
unfolding IsHomogeneous IsElsewhere
part_elsewhere op g h acts v u part = record {
  some_row = part.some_row;
  over = part.over;
  ratios = λ x y same.
      h v (u (within g y)) x
      ∙ acts (λ r. v r ⊗ u (within g y)) (λ r. v r ⊗ u (within g x)) x y same (λ r s agree at_x at_y.
      ap (λ n. v r ⊗ u n) (sym at_y) ∙ part.ratios r s agree ∙ ap (λ n. v s ⊗ u n) at_x)
      ∙ sym (h v (u (within g x)) y);
}

-- inside, the operation of a part has the ratios of a part of the operation's vector
pub part_inside : (op : Vector → Vector) (g : List ℕ) → IsHomogeneous op → IsInside g op
    → (v u : Vector) → IsPart v g u
    → (x y : ℕ) → AgreeOutside g x y → op v x ⊗ op u (within g y) ≡ op v y ⊗ op u (within g x)
unfolding IsHomogeneous IsInside
part_inside op g h acts v u part x y same =
    let half : (x y : ℕ) → AgreeOutside g x y → op v x ⊗ u (within g y) ≡ v y ⊗ op u (within g x) = λ x y near.
    h v (u (within g y)) x
    ∙ acts (λ r. v r ⊗ u (within g y)) (λ r. v y ⊗ u r) x (λ r agree. part.ratios r y (agree_trans g r x y agree near))
    ∙ ap (λ f. op f (within g x)) (fun_ext (λ r. ⊗_comm (v y) (u r)))
    ∙ sym (h u (v y) (within g x)) ∙ ⊗_comm (op u (within g x)) (v y) in
    ⊗_comm (op v x) (op u (within g y)) ∙ h u (op v x) (within g y)
    ∙ sym (acts (λ r. v r ⊗ op u (within g x)) (λ r. u r ⊗ op v x) y (λ r agree.
    sym (half x r (agree_trans g x y r same (agree_sym g r y agree))) ∙ ⊗_comm (op v x) (u (within g r))))
    ∙ sym (h v (op u (within g x)) y)

-- one homogeneous operation after another is homogeneous
pub homogeneous_after : (f g : Vector → Vector) → IsHomogeneous f → IsHomogeneous g → IsHomogeneous (λ v. f (g v))
unfolding IsHomogeneous
homogeneous_after f g p q v k x = p (g v) k x ∙ ap (λ w. f w x) (fun_ext (λ r. q v k r))

-- ---- the gates on one qubit
sum_times : (m n a b k : Coefficient) → (m ⊗ a ⊕ n ⊗ b) ⊗ k ≡ m ⊗ (a ⊗ k) ⊕ n ⊗ (b ⊗ k)
sum_times m n a b k =
    ⊗_comm (m ⊗ a ⊕ n ⊗ b) k ∙ ⊗-⊕ k (m ⊗ a) (n ⊗ b)
    ∙ ap (λ c. c ⊕ k ⊗ (n ⊗ b)) (⊗_comm k (m ⊗ a) ∙ ⊗_assoc m a k)
    ∙ ap (λ c. m ⊗ (a ⊗ k) ⊕ c) (⊗_comm k (n ⊗ b) ∙ ⊗_assoc n b k)

entry_times : (m : Matrix) (b : Bool) (y z k : Coefficient) → entry m b y z ⊗ k ≡ entry m b (y ⊗ k) (z ⊗ k)
unfolding entry
entry_times m false y z k = sum_times m.zero_zero m.zero_one y z k
entry_times m true y z k = sum_times m.one_zero m.one_one y z k

pub gate-IsHomogeneous : (m : Matrix) (q : ℕ) → IsHomogeneous (gate m q)
unfolding IsHomogeneous gate
gate-IsHomogeneous m q v k x = entry_times m (is_set q x) (v (with_bit q false x)) (v (with_bit q true x)) k

pub gate-IsElsewhere : (g : List ℕ) (m : Matrix) (q : ℕ) → is_listed g q ≡ false → IsElsewhere g (gate m q)
unfolding IsElsewhere gate
gate-IsElsewhere g m q out v w x y same reads =
    let at = λ (b : Bool). reads (with_bit q b x) (with_bit q b y) (agree-with_bit g q b x y same) (within-with_bit_outside g q b x out) (within-with_bit_outside g q b y out) in
    ap (λ b. entry m b (v (with_bit q false x)) (v (with_bit q true x))) (is_set-agree g q x y out same)
    ∙ ap (λ c. entry m (is_set q y) c (v (with_bit q true x))) (at false)
    ∙ ap (λ c. entry m (is_set q y) (w (with_bit q false y)) c) (at true)

pub gate-IsInside : (g : List ℕ) (m : Matrix) (q : ℕ) → is_listed g q ≡ true → IsInside g (gate m q)
unfolding IsInside gate
gate-IsInside g m q inside v w x reads =
    let at = λ (b : Bool). reads (with_bit q b x) (agree-with_bit_inside g q b x inside) ∙ ap w (within-with_bit_inside g q b x inside) in
    ap (λ b. entry m b (v (with_bit q false x)) (v (with_bit q true x))) (sym (is_set-within_inside g q x inside))
    ∙ ap (λ c. entry m (is_set q (within g x)) c (v (with_bit q true x))) (at false)
    ∙ ap (λ c. entry m (is_set q (within g x)) (w (with_bit q false (within g x))) c) (at true)

cond_times : (b : Bool) (y z k : Coefficient) → cond b y z ⊗ k ≡ cond b (y ⊗ k) (z ⊗ k)
cond_times true y z k = refl
cond_times false y z k = refl

pub keep-IsHomogeneous : (q : ℕ) (b : Bool) → IsHomogeneous (keep q b)
unfolding IsHomogeneous keep
keep-IsHomogeneous q b v k x = cond_times (is_set q x) zero_coefficient (v (with_bit q b x)) k ∙ ap (λ c. cond (is_set q x) c (v (with_bit q b x) ⊗ k)) (zero_coefficient-⊗ k)

pub raised-IsHomogeneous : (q : ℕ) → IsHomogeneous (raised q)
unfolding IsHomogeneous raised
raised-IsHomogeneous q v k x = cond_times (is_set q x) (v (with_bit q false x)) zero_coefficient k ∙ ap (λ c. cond (is_set q x) (v (with_bit q false x) ⊗ k) c) (zero_coefficient-⊗ k)

pub controlled_not-IsHomogeneous : (p q : ℕ) → IsHomogeneous (controlled_not p q)
unfolding IsHomogeneous controlled_not
controlled_not-IsHomogeneous p q v k x = refl

pub negated_times : (y k : Coefficient) → negated y ⊗ k ≡ negated (y ⊗ k)
negated_times y k = same_coordinates _ _
    (simp expand (omega (arith, same_in, sum_is_lem, neg_is)))
    (simp expand (omega (arith, same_in, sum_is_lem, neg_is)))
    (simp expand (omega (arith, same_in, sum_is_lem, neg_is)))
    (simp expand (omega (arith, same_in, sum_is_lem, neg_is)))

pub controlled_phase-IsHomogeneous : (p q : ℕ) → IsHomogeneous (controlled_phase p q)
unfolding IsHomogeneous controlled_phase
controlled_phase-IsHomogeneous p q v k x =
    cond_times (is_set p x) (cond (is_set q x) (negated (v x)) (v x)) (v x) k
    ∙ ap (λ c. cond (is_set p x) c (v x ⊗ k)) (cond_times (is_set q x) (negated (v x)) (v x) k)
    ∙ ap (λ c. cond (is_set p x) (cond (is_set q x) c (v x ⊗ k)) (v x ⊗ k)) (negated_times (v x) k)

pub paired-IsHomogeneous : (p q : ℕ) → IsHomogeneous (paired p q)
unfolding IsHomogeneous paired
paired-IsHomogeneous p q v k x =
    let y = v (with_bit p false (with_bit q false x)) in
    cond_times (is_set p x) (cond (is_set q x) y zero_coefficient) (cond (is_set q x) zero_coefficient (v x)) k
    ∙ ap (λ c. cond (is_set p x) c (cond (is_set q x) zero_coefficient (v x) ⊗ k)) (cond_times (is_set q x) y zero_coefficient k ∙ ap (cond (is_set q x) (y ⊗ k)) (zero_coefficient-⊗ k))
    ∙ ap (cond (is_set p x) (cond (is_set q x) (y ⊗ k) zero_coefficient)) (cond_times (is_set q x) zero_coefficient (v x) k ∙ ap (λ c. cond (is_set q x) c (v x ⊗ k)) (zero_coefficient-⊗ k))

pub keep-IsElsewhere : (g : List ℕ) (q : ℕ) (b : Bool) → is_listed g q ≡ false → IsElsewhere g (keep q b)
unfolding IsElsewhere keep
keep-IsElsewhere g q b out v w x y same reads =
    ap (λ c. cond c zero_coefficient (v (with_bit q b x))) (is_set-agree g q x y out same)
    ∙ ap (cond (is_set q y) zero_coefficient) (reads (with_bit q b x) (with_bit q b y) (agree-with_bit g q b x y same) (within-with_bit_outside g q b x out) (within-with_bit_outside g q b y out))

pub raised-IsElsewhere : (g : List ℕ) (q : ℕ) → is_listed g q ≡ false → IsElsewhere g (raised q)
unfolding IsElsewhere raised
raised-IsElsewhere g q out v w x y same reads =
    ap (λ c. cond c (v (with_bit q false x)) zero_coefficient) (is_set-agree g q x y out same)
    ∙ ap (λ c. cond (is_set q y) c zero_coefficient) (reads (with_bit q false x) (with_bit q false y) (agree-with_bit g q false x y same) (within-with_bit_outside g q false x out) (within-with_bit_outside g q false y out))

pub controlled_phase-IsElsewhere : (g : List ℕ) (p q : ℕ) → is_listed g p ≡ false → is_listed g q ≡ false → IsElsewhere g (controlled_phase p q)
unfolding IsElsewhere controlled_phase
controlled_phase-IsElsewhere g p q out_p out_q v w x y same reads =
    ap (λ c. cond c (cond (is_set q x) (negated (v x)) (v x)) (v x)) (is_set-agree g p x y out_p same)
    ∙ ap (λ c. cond (is_set p y) (cond c (negated (v x)) (v x)) (v x)) (is_set-agree g q x y out_q same)
    ∙ ap (λ c. cond (is_set p y) (cond (is_set q y) (negated c) c) c) (reads x y same refl refl)

-- a gate elsewhere keeps a part
pub gate-keeps_part : (g : List ℕ) (m : Matrix) (q : ℕ) → is_listed g q ≡ false → (v u : Vector) → IsPart v g u → IsPart (gate m q v) g u
gate-keeps_part g m q out = part_elsewhere (gate m q) g (gate-IsHomogeneous m q) (gate-IsElsewhere g m q out)

-- a measurement elsewhere keeps a part
pub keep-keeps_part : (g : List ℕ) (q : ℕ) (b : Bool) → is_listed g q ≡ false → (v u : Vector) → IsPart v g u → IsPart (keep q b v) g u
keep-keeps_part g q b out = part_elsewhere (keep q b) g (keep-IsHomogeneous q b) (keep-IsElsewhere g q b out)

-- one operation elsewhere after another is elsewhere
pub elsewhere_after : (n : List ℕ) (f g : Vector → Vector) → IsElsewhere n f → IsElsewhere n g → IsElsewhere n (λ v. f (g v))
unfolding IsElsewhere
elsewhere_after n f g p q v w x y same reads =
    p (g v) (g w) x y same (λ r s near at_x at_y. q v w r s near (λ r' s' near' e e'. reads r' s' near' (e ∙ at_x) (e' ∙ at_y)))

pub controlled_not-IsElsewhere : (g : List ℕ) (p q : ℕ) → is_listed g p ≡ false → is_listed g q ≡ false → IsElsewhere g (controlled_not p q)
unfolding IsElsewhere controlled_not
controlled_not-IsElsewhere g p q out_p out_q v w x y same reads =
    ap (λ b. v (cond b (turned q x) x)) (is_set-agree g p x y out_p same) ∙ by (is_set p y)
  where
    by : (b : Bool) → v (cond b (turned q x) x) ≡ w (cond b (turned q y) y)
    by true = reads (turned q x) (turned q y) (agree-turned g q x y same) (within-turned_outside g q x out_q) (within-turned_outside g q y out_q)
    by false = reads x y same refl refl

pub paired-IsElsewhere : (g : List ℕ) (p q : ℕ) → is_listed g p ≡ false → is_listed g q ≡ false → IsElsewhere g (paired p q)
unfolding IsElsewhere paired
paired-IsElsewhere g p q out_p out_q v w x y same reads =
    ap (λ b. cond b (cond (is_set q x) (v (low x)) zero_coefficient) (cond (is_set q x) zero_coefficient (v x))) (is_set-agree g p x y out_p same)
    ∙ ap (λ b. cond (is_set p y) (cond b (v (low x)) zero_coefficient) (cond b zero_coefficient (v x))) (is_set-agree g q x y out_q same)
    ∙ ap (λ c. cond (is_set p y) (cond (is_set q y) c zero_coefficient) (cond (is_set q y) zero_coefficient (v x))) (reads (low x) (low y) (near x y same) (at x) (at y))
    ∙ ap (λ c. cond (is_set p y) (cond (is_set q y) (w (low y)) zero_coefficient) (cond (is_set q y) zero_coefficient c)) (reads x y same refl refl)
  where
    low : ℕ → ℕ
    low z = with_bit p false (with_bit q false z)

    near : (x y : ℕ) → AgreeOutside g x y → AgreeOutside g (low x) (low y)
    near x y h = agree-with_bit g p false _ _ (agree-with_bit g q false x y h)

    at : (z : ℕ) → within g (low z) ≡ within g z
    at z = within-with_bit_outside g p false (with_bit q false z) out_p ∙ within-with_bit_outside g q false z out_q

pub two_gate-IsHomogeneous : (k : Two) (p q : ℕ) → IsHomogeneous (two_gate k p q)
unfolding two_gate
two_gate-IsHomogeneous twos.Cnot p q = controlled_not-IsHomogeneous p q
two_gate-IsHomogeneous twos.Cphase p q = controlled_phase-IsHomogeneous p q

pub raised_keep-IsHomogeneous : (q : ℕ) (b : Bool) → IsHomogeneous (λ v. raised q (keep q b v))
raised_keep-IsHomogeneous q b = homogeneous_after (raised q) (keep q b) (raised-IsHomogeneous q) (keep-IsHomogeneous q b)

pub two_gate-IsElsewhere : (k : Two) (g : List ℕ) (a b : ℕ) → is_listed g a ≡ false → is_listed g b ≡ false → IsElsewhere g (two_gate k a b)
unfolding two_gate
two_gate-IsElsewhere twos.Cnot g a b x y = controlled_not-IsElsewhere g a b x y
two_gate-IsElsewhere twos.Cphase g a b x y = controlled_phase-IsElsewhere g a b x y
