-- Sizes of groups do not grow where other qubits are acted on, or where a qubit of the group is measured.
use Rattle.std.proofs.Common.{◌≡◌, ◌≢◌, ℕ, ◌+◌, ◌≤◌, ◌==◌, Bool, true, false, not, cond, ◌&&◌, ◌||◌, List, [], ◌∷◌, ◌++◌, map, filter, sum_by, le_trans, le_refl, refl, sym, ap, subst, ◌∙◌, arith}
use mathlib.Core.Path.{fun_ext}
use Rattle.std.proofs.lemmas.List.Sums.{sum_by-cons}
use Rattle.state_model.proofs.Registers.{AreDistinct}
use Rattle.state_model.specs.Coefficient.{Coefficient, zero_coefficient, ◌⊗◌, squares}
use Rattle.state_model.specs.Row.{is_set, with_bit, is_listed, within, AgreeOutside, rows_of}
use Rattle.state_model.specs.StateVector.{Vector, IsPart, HasSizeAtLeast, squares_over}
use Rattle.state_model.specs.Measurement.{keep}
use Rattle.state_model.specs.Row.{without}
use Rattle.state_model.proofs.Domain.{⊗-domain, ⊗-zero_coefficient, zero_coefficient-⊗}
use Rattle.state_model.proofs.SameStates.{stable}
use Rattle.state_model.proofs.Linear.{IsHomogeneous, IsElsewhere, part_elsewhere}
use Rattle.state_model.proofs.Booleans.{and_true, and_false, clash, eq_true, eq_of, ne_of, eq_false, or_false_right, or_false_left}
use Rattle.state_model.proofs.Numbers.{is_listed-without}
use Rattle.state_model.proofs.Products.{blend, blend_inside, blend_outside, within_same}
use Rattle.state_model.proofs.Parts.{no_bit_outside, within_all}
use Rattle.state_model.proofs.RowLaws.{same_row, is_set-within, is_set-with_bit_same, is_set-with_bit_other, zero_clear}

-- elsewhere
pub size_elsewhere : (op : Vector → Vector) (g : List ℕ) → IsHomogeneous op → IsElsewhere g op → (v : Vector) (n : ℕ) → HasSizeAtLeast (op v) g n → HasSizeAtLeast v g n
size_elsewhere op g h acts v n large u part = large u (part_elsewhere op g h acts v u part)

-- q is not in g without q, and each other number is where it is in g
pub not_in : (g : List ℕ) (q : ℕ) → is_listed (without g q) q ≡ false
not_in g q = is_listed-without g q q ∙ ap (λ b. is_listed g q && not b) (eq_true q q refl) ∙ and_false (is_listed g q)

other_in : (g : List ℕ) (q p : ℕ) → p ≢ q → is_listed (without g q) p ≡ is_listed g p
other_in g q p h = is_listed-without g q p ∙ ap (λ b. is_listed g p && not b) (eq_false p q h) ∙ and_true (is_listed g p)

-- rows that agree outside g without q agree outside g once bit q is the same
agree_kept : (g : List ℕ) (q : ℕ) (b : Bool) (x y : ℕ) → AgreeOutside (without g q) x y → AgreeOutside g (with_bit q b x) (with_bit q b y)
agree_kept g q b x y same p out = by (p == q) refl
  where
    by : (t : Bool) → (p == q) ≡ t → is_set p (with_bit q b x) ≡ is_set p (with_bit q b y)
    by true e = ap (λ n. is_set n (with_bit q b x)) (eq_of p q e) ∙ is_set-with_bit_same q b x ∙ sym (ap (λ n. is_set n (with_bit q b y)) (eq_of p q e) ∙ is_set-with_bit_same q b y)
    by false e = let h = ne_of p q e in is_set-with_bit_other p q b x h ∙ same p (other_in g q p h ∙ out) ∙ sym (is_set-with_bit_other p q b y h)

-- within g with bit q set is within g without q, and then bit q set
within_kept : (g : List ℕ) (q : ℕ) (b : Bool) (x : ℕ) → is_listed g q ≡ true → within g (with_bit q b x) ≡ with_bit q b (within (without g q) x)
within_kept g q b x inside = same_row _ _ (λ p. is_set-within g p (with_bit q b x) ∙ by p (p == q) refl)
  where
    by : (p : ℕ) (t : Bool) → (p == q) ≡ t → (is_set p (with_bit q b x) && is_listed g p) ≡ is_set p (with_bit q b (within (without g q) x))
    by p true e =
        let is = eq_of p q e in
        ap (λ n. is_set n (with_bit q b x) && is_listed g n) is ∙ ap (λ c. is_set q (with_bit q b x) && c) inside ∙ and_true (is_set q (with_bit q b x)) ∙ is_set-with_bit_same q b x
        ∙ sym (ap (λ n. is_set n (with_bit q b (within (without g q) x))) is ∙ is_set-with_bit_same q b (within (without g q) x))
    by p false e =
        let h = ne_of p q e in
        ap (λ c. c && is_listed g p) (is_set-with_bit_other p q b x h) ∙ ap (λ c. is_set p x && c) (sym (other_in g q p h))
        ∙ sym (is_set-with_bit_other p q b (within (without g q) x) h ∙ is_set-within (without g q) p x)

q_clear : (g : List ℕ) (q x : ℕ) → is_set q (within (without g q) x) ≡ false
q_clear g q x = is_set-within (without g q) q x ∙ ap (λ c. is_set q x && c) (not_in g q) ∙ and_false (is_set q x)

-- what is kept of a part is a part of what is kept
pub kept_part : (g : List ℕ) (q : ℕ) (b : Bool) (v u : Vector) → is_listed g q ≡ true → ¬ ((x : ℕ) → keep q b v x ≡ zero_coefficient) → IsPart v g u → IsPart (keep q b v) (without g q) (keep q b u)
unfolding keep
kept_part g q b v u inside some part = record {
  some_row = λ none. some (λ x. by_row x none (is_set q x) refl);
  over = λ x row. within_all (without g q) x (λ p out. clear x row p out (p == q) refl);
  ratios = λ x y same. ratio x y same (is_set q x) refl;
}
  where
    -- the part's kept coefficient
    at : (x : ℕ) → keep q b u (within (without g q) x) ≡ u (within g (with_bit q b x))
    at x = ap (λ t. cond t zero_coefficient (u (with_bit q b (within (without g q) x)))) (q_clear g q x) ∙ ap u (sym (within_kept g q b x inside))

    ratio : (x y : ℕ) → AgreeOutside (without g q) x y → (t : Bool) → is_set q x ≡ t → keep q b v x ⊗ keep q b u (within (without g q) y) ≡ keep q b v y ⊗ keep q b u (within (without g q) x)
    ratio x y same true e =
        let f : is_set q y ≡ true = sym (same q (not_in g q)) ∙ e in
        ap (λ t. cond t zero_coefficient (v (with_bit q b x)) ⊗ keep q b u (within (without g q) y)) e ∙ zero_coefficient-⊗ (keep q b u (within (without g q) y))
        ∙ sym (ap (λ t. cond t zero_coefficient (v (with_bit q b y)) ⊗ keep q b u (within (without g q) x)) f ∙ zero_coefficient-⊗ (keep q b u (within (without g q) x)))
    ratio x y same false e =
        let f : is_set q y ≡ false = sym (same q (not_in g q)) ∙ e in
        ap (λ t. cond t zero_coefficient (v (with_bit q b x)) ⊗ keep q b u (within (without g q) y)) e ∙ ap (λ c. v (with_bit q b x) ⊗ c) (at y)
        ∙ part.ratios (with_bit q b x) (with_bit q b y) (agree_kept g q b x y same)
        ∙ sym (ap (λ t. cond t zero_coefficient (v (with_bit q b y)) ⊗ keep q b u (within (without g q) x)) f ∙ ap (λ c. v (with_bit q b y) ⊗ c) (at x))

    -- a row of the kept vector gives one of the kept part
    by_row : (x : ℕ) → ((y : ℕ) → keep q b u y ≡ zero_coefficient) → (t : Bool) → is_set q x ≡ t → keep q b v x ≡ zero_coefficient
    by_row x none true e = ap (λ t. cond t zero_coefficient (v (with_bit q b x))) e
    by_row x none false e =
        ap (λ t. cond t zero_coefficient (v (with_bit q b x))) e ∙ stable (v (with_bit q b x)) zero_coefficient (λ row. part.some_row (λ y. stable (u y) zero_coefficient (λ row_y. row_y (
        let z = with_bit q b x in
        let w = blend g z y in
        let at_w : within g w ≡ y = within_same g w y (λ p i. blend_inside g p z y i) ∙ part.over y row_y in
        ⊗-domain (v z) (u y) row (ap (λ n. v z ⊗ u n) (sym at_w) ∙ part.ratios z w (λ p out. sym (blend_outside g p z y out)) ∙ ap (λ c. v w ⊗ c) (sym (at x) ∙ none (within (without g q) x)) ∙ ⊗-zero_coefficient (v w))))))

    clear : (x : ℕ) → keep q b u x ≢ zero_coefficient → (p : ℕ) → is_listed (without g q) p ≡ false → (t : Bool) → (p == q) ≡ t → is_set p x ≡ false
    clear x row p out true e = ap (λ n. is_set n x) (eq_of p q e) ∙ q_off x row (is_set q x) refl
      where
        q_off : (x : ℕ) → keep q b u x ≢ zero_coefficient → (t : Bool) → is_set q x ≡ t → is_set q x ≡ false
        q_off x row true f = absurd (row (ap (λ t. cond t zero_coefficient (u (with_bit q b x))) f))
        q_off x row false f = f
    clear x row p out false e =
        let h = ne_of p q e in
        sym (is_set-with_bit_other p q b x h) ∙ no_bit_outside g (with_bit q b x) p (part.over (with_bit q b x) (λ f. row (zero f (is_set q x)))) (sym (other_in g q p h) ∙ out)
      where
        zero : u (with_bit q b x) ≡ zero_coefficient → (t : Bool) → cond t zero_coefficient (u (with_bit q b x)) ≡ zero_coefficient
        zero f true = refl
        zero f false = f

-- ---- the sum of squares over the rows of a group
add_below : (a b c d e : ℕ) → b ≡ c → a ≤ d → c ≤ e → a + b ≤ d + e
add_below a b c d e p q r = omega arith

chain : (a b c d e : ℕ) → a ≡ b → b ≤ c → c ≤ d → e ≡ d → a ≤ e
chain a b c d e p q r s = omega arith

smaller : (t : Bool) (z : Coefficient) → squares (cond t zero_coefficient z) ≤ squares z
smaller true z = none_less (squares z)
  where
    none_less : (n : ℕ) → squares zero_coefficient ≤ n
    none_less n = unfold squares in omega arith
smaller false z = le_refl (squares z)

join : (a b c d : ℕ) → b ≡ c + d → a + b ≡ (a + c) + d
join a b c d e = omega arith

-- bits of different qubits are set in any order
pub with_bit_swap : (p : ℕ) (b : Bool) (q : ℕ) (c : Bool) (x : ℕ) → p ≢ q → with_bit p b (with_bit q c x) ≡ with_bit q c (with_bit p b x)
with_bit_swap p b q c x apart = same_row _ _ (λ r. at r (r == p) refl (r == q) refl)
  where
    at : (r : ℕ) (s : Bool) → (r == p) ≡ s → (t : Bool) → (r == q) ≡ t → is_set r (with_bit p b (with_bit q c x)) ≡ is_set r (with_bit q c (with_bit p b x))
    at r true e t f =
        let is = eq_of r p e in
        ap (λ n. is_set n (with_bit p b (with_bit q c x))) is ∙ is_set-with_bit_same p b _ ∙ sym (ap (λ n. is_set n (with_bit q c (with_bit p b x))) is ∙ is_set-with_bit_other p q c _ apart ∙ is_set-with_bit_same p b x)
    at r false e true f =
        let is = eq_of r q f in
        ap (λ n. is_set n (with_bit p b (with_bit q c x))) is ∙ is_set-with_bit_other q p b _ (λ h. apart (sym h)) ∙ is_set-with_bit_same q c x ∙ sym (ap (λ n. is_set n (with_bit q c (with_bit p b x))) is ∙ is_set-with_bit_same q c _)
    at r false e false f = is_set-with_bit_other r p b _ (ne_of r p e) ∙ is_set-with_bit_other r q c x (ne_of r q f) ∙ sym (is_set-with_bit_other r q c _ (ne_of r q f) ∙ is_set-with_bit_other r p b x (ne_of r p e))

over_rows : List ℕ → (ℕ → ℕ) → ℕ
over_rows [] f = f 0
over_rows (p ∷ g) f = over_rows g f + over_rows g (λ x. f (with_bit p true x))

append_sum : (f : ℕ → ℕ) (xs ys : List ℕ) → sum_by f (xs ++ ys) ≡ sum_by f xs + sum_by f ys
append_sum f [] ys = omega arith
append_sum f (x ∷ xs) ys =
    let a = sum_by-cons f x (xs ++ ys) in
    let b = sum_by-cons f x xs in
    let c = append_sum f xs ys in
    a ∙ join (f x) (sum_by f (xs ++ ys)) (sum_by f xs) (sum_by f ys) c ∙ ap (λ n. n + sum_by f ys) (sym b)

map_sum : (f h : ℕ → ℕ) (xs : List ℕ) → sum_by f (map h xs) ≡ sum_by (λ x. f (h x)) xs
map_sum f h [] = refl
map_sum f h (x ∷ xs) = sum_by-cons f (h x) (map h xs) ∙ ap (λ n. f (h x) + n) (map_sum f h xs) ∙ sym (sum_by-cons (λ x. f (h x)) x xs)

sum_is_over : (g : List ℕ) (f : ℕ → ℕ) → sum_by f (rows_of g) ≡ over_rows g f
unfolding rows_of over_rows
sum_is_over [] f = sum_by-cons f 0 [] ∙ omega arith
sum_is_over (p ∷ g) f =
    append_sum f (rows_of g) (map (with_bit p true) (rows_of g))
    ∙ ap (λ n. n + sum_by f (map (with_bit p true) (rows_of g))) (sum_is_over g f)
    ∙ ap (λ n. over_rows g f + n) (map_sum f (with_bit p true) (rows_of g) ∙ sum_is_over g (λ x. f (with_bit p true x)))

over_same : (g : List ℕ) (f h : ℕ → ℕ) → ((x : ℕ) → f x ≡ h x) → over_rows g f ≡ over_rows g h
over_same g f h e = ap (over_rows g) (fun_ext e)

over_below : (g : List ℕ) (f h : ℕ → ℕ) → ((x : ℕ) → f x ≤ h x) → over_rows g f ≤ over_rows g h
unfolding over_rows
over_below [] f h le = le 0
over_below (p ∷ g) f h le =
    let a = over_below g f h le in
    let b = over_below g (λ x. f (with_bit p true x)) (λ x. h (with_bit p true x)) (λ x. le (with_bit p true x)) in
    omega arith

-- over rows without bit q, clearing it changes nothing
over_clear : (g : List ℕ) (q : ℕ) (f : ℕ → ℕ) → is_listed g q ≡ false → over_rows g (λ x. f (with_bit q false x)) ≡ over_rows g f
unfolding over_rows is_listed
over_clear [] q f out = ap f clear_zero
  where
    clear_zero : with_bit q false 0 ≡ 0
    clear_zero = same_row _ _ (λ p. at p (p == q) refl)
      where
        at : (p : ℕ) (t : Bool) → (p == q) ≡ t → is_set p (with_bit q false 0) ≡ is_set p 0
        at p true e = ap (λ n. is_set n (with_bit q false 0)) (eq_of p q e) ∙ is_set-with_bit_same q false 0 ∙ sym (zero_clear p)
        at p false e = is_set-with_bit_other p q false 0 (ne_of p q e)
over_clear (p ∷ g) q f out =
    let rest : is_listed g q ≡ false = or_false_right (p == q) (is_listed g q) out in
    let other : p ≢ q = λ e. clash (sym (eq_true p q e) ∙ or_false_left (p == q) (is_listed g q) out) in
    ap (λ n. n + over_rows g (λ x. f (with_bit q false (with_bit p true x)))) (over_clear g q f rest)
    ∙ ap (λ n. over_rows g f + n) (over_same g _ _ (λ x. ap f (with_bit_swap q false p true x (λ e. other (sym e)))) ∙ over_clear g q (λ x. f (with_bit p true x)) rest)

pub without-same : (g : List ℕ) (p q : ℕ) → (p == q) ≡ true → without (p ∷ g) q ≡ without g q
unfolding without
without-same g p q e = ap (λ t. cond (not t) (p ∷ filter (λ n. not (n == q)) g) (filter (λ n. not (n == q)) g)) e

pub without-other : (g : List ℕ) (p q : ℕ) → (p == q) ≡ false → without (p ∷ g) q ≡ p ∷ without g q
unfolding without
without-other g p q e = ap (λ t. cond (not t) (p ∷ filter (λ n. not (n == q)) g) (filter (λ n. not (n == q)) g)) e

pub without_absent : (g : List ℕ) (q : ℕ) → is_listed g q ≡ false → without g q ≡ g
unfolding is_listed
without_absent [] q out = unfold without in refl
without_absent (p ∷ g) q out = without-other g p q (or_false_left (p == q) (is_listed g q) out) ∙ ap (λ l. p ∷ l) (without_absent g q (or_false_right (p == q) (is_listed g q) out))

-- of a list of distinct numbers, what is kept of q sums up to no more
over_kept : (g : List ℕ) (q : ℕ) (b : Bool) (f : ℕ → ℕ) → AreDistinct g → is_listed g q ≡ true → over_rows (without g q) (λ x. f (with_bit q b x)) ≤ over_rows g f
unfolding over_rows is_listed
over_kept [] q b f apart inside = cc
over_kept (p ∷ g) q b f apart inside = by (λ f i. over_kept g q b f (apart.1) i) (p == q) refl
  where
    here : (c : Bool) → p ≡ q → is_listed g q ≡ false → over_rows g (λ x. f (with_bit q c x)) ≤ over_rows g f + over_rows g (λ x. f (with_bit p true x))
    here true is out = let e = ap (λ n. over_rows g (λ x. f (with_bit n true x))) is in omega arith
    here false is out = let e = over_clear g q f out in omega arith

    by : ((f : ℕ → ℕ) → is_listed g q ≡ true → over_rows (without g q) (λ x. f (with_bit q b x)) ≤ over_rows g f) → (t : Bool) → (p == q) ≡ t
        → over_rows (without (p ∷ g) q) (λ x. f (with_bit q b x)) ≤ over_rows g f + over_rows g (λ x. f (with_bit p true x))
    by again true e =
        let is = eq_of p q e in
        let out : is_listed g q ≡ false = ap (is_listed g) (sym is) ∙ apart.0 in
        subst (λ l. over_rows l (λ x. f (with_bit q b x)) ≤ over_rows g f + over_rows g (λ x. f (with_bit p true x))) (sym (without-same g p q e ∙ without_absent g q out)) (here b is out)
    by again false e =
        let i : is_listed g q ≡ true = sym (ap (λ c. c || is_listed g q) e) ∙ inside in
        let first = again f i in
        let second = again (λ x. f (with_bit p true x)) i in
        let swapped = over_same (without g q) (λ x. f (with_bit q b (with_bit p true x))) (λ x. f (with_bit p true (with_bit q b x))) (λ x. ap f (with_bit_swap q b p true x (λ h. ne_of p q e (sym h)))) in
        subst (λ l. over_rows l (λ x. f (with_bit q b x)) ≤ over_rows g f + over_rows g (λ x. f (with_bit p true x))) (sym (without-other g p q e))
        (add_below _ _ _ _ _ swapped first second)

-- the squares of what is kept of a vector sum up to no more
pub kept_squares : (g : List ℕ) (q : ℕ) (b : Bool) (u : Vector) → AreDistinct g → is_listed g q ≡ true → squares_over (without g q) (keep q b u) ≤ squares_over g u
unfolding squares_over keep
kept_squares g q b u apart inside =
    let f = λ (x : ℕ). squares (u x) in
    let one = over_below (without g q) (λ x. squares (keep q b u x)) (λ x. f (with_bit q b x)) (λ x. smaller (is_set q x) (u (with_bit q b x))) in
    let two = over_kept g q b f apart inside in
    let left = sum_is_over (without g q) (λ x. squares (keep q b u x)) in
    let right = sum_is_over g f in
    chain _ _ _ _ _ left one two right

-- a measurement of a qubit of the group does not make its size grow
pub size_kept : (g : List ℕ) (q : ℕ) (b : Bool) (v : Vector) (n : ℕ) → AreDistinct g → is_listed g q ≡ true → ¬ ((x : ℕ) → keep q b v x ≡ zero_coefficient)
    → HasSizeAtLeast (keep q b v) (without g q) n → HasSizeAtLeast v g n
size_kept g q b v n apart inside some large u part =
    le_trans (large (keep q b u) (kept_part g q b v u inside some part)) (kept_squares g q b u apart inside)
