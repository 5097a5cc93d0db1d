-- Equations between polynomials over the whole numbers, proved by computing: both sides are multiplied out, and `refl` compares the results.
--     Term      an expression with variables by number
--     value     its value, where the list has the variables
--     expand    its terms, in order, each with a coefficient other than 0
--     equal     two expressions with one expansion have one value
use Rattle.std.proofs.Common.{◌≡◌, ℕ, suc, ◌*◌, ℤ, pos, negsuc, ◌+ℤ◌, ◌*ℤ◌, neg_ℤ, refl, sym, ap, ◌∙◌, arith, Bool, true, false, eqb, ltb, List, [], ◌∷◌, slice_index_or}
use Rattle.std.proofs.lemmas.Bool.{eqb-true}
use borrow.Author.Differences.{same_in, same_out, sum_is_lem, neg_is}
use Rattle.state_model.proofs.Integers.{mul_assoc_ℤ, mul_comm_ℤ, mul_add_ℤ, add_mul_ℤ, neg_mul_ℤ}

-- linear facts about whole numbers, in which a product is an unknown
ruleset linear = (same_out, same_in, sum_is_lem, neg_is)

pub data Term : Type 0 where
  var : ℕ → Term
  number : ℤ → Term
  plus : Term → Term → Term
  times : Term → Term → Term
  minus : Term → Term

abbrev pub less : Term → Term → Term
less s t = plus s (minus t)

abbrev pub square : Term → Term
square t = times t t

abbrev pub two : Term
two = number (pos 2)

abbrev pub value : List ℤ → Term → ℤ
value env (var i) = slice_index_or env i (pos 0)
value env (number z) = z
value env (plus s t) = value env s +ℤ value env t
value env (times s t) = value env s *ℤ value env t
value env (minus t) = neg_ℤ (value env t)

-- a sum of products of variables with coefficients
pub data Sum : Type 0 where
  none : Sum
  more : List ℕ → ℤ → Sum → Sum

abbrev pub product_of : List ℤ → List ℕ → ℤ
product_of env [] = pos 1
product_of env (i ∷ m) = slice_index_or env i (pos 0) *ℤ product_of env m

abbrev pub value_of_sum : List ℤ → Sum → ℤ
value_of_sum env none = pos 0
value_of_sum env (more m c p) = c *ℤ product_of env m +ℤ value_of_sum env p

pub data Side : Type 0 where
  before : Side
  same : Side
  after : Side

abbrev pub side : List ℕ → List ℕ → Side
side [] [] = same
side [] (j ∷ n) = before
side (i ∷ m) [] = after
side (i ∷ m) (j ∷ n) = elim (eqb i j) [ true ↦ side m n | false ↦ elim (ltb i j) [ true ↦ before | false ↦ after ] ]

abbrev pub is_zero : ℤ → Bool
is_zero (pos n) = eqb n 0
is_zero (negsuc n) = false

abbrev pub put : List ℕ → ℤ → Sum → Sum
put m c none = more m c none
put m c (more n d p) = elim (side m n) [ before ↦ more m c (more n d p) | same ↦ (elim (is_zero (c +ℤ d)) [ true ↦ p | false ↦ more n (c +ℤ d) p ]) | after ↦ more n d (put m c p) ]

-- the variables of two products, in order
abbrev pub into : ℕ → List ℕ → List ℕ
into i [] = i ∷ []
into i (j ∷ n) = elim (ltb j i) [ true ↦ j ∷ into i n | false ↦ i ∷ j ∷ n ]

abbrev pub join : List ℕ → List ℕ → List ℕ
join [] n = n
join (i ∷ m) n = into i (join m n)

abbrev pub sum_of : Sum → Sum → Sum
sum_of none q = q
sum_of (more m c p) q = put m c (sum_of p q)

abbrev pub add_multiple : List ℕ → ℤ → Sum → Sum → Sum
add_multiple m c none r = r
add_multiple m c (more n d q) r = put (join m n) (c *ℤ d) (add_multiple m c q r)

abbrev pub product_of_sums : Sum → Sum → Sum
product_of_sums none q = none
product_of_sums (more m c p) q = add_multiple m c q (product_of_sums p q)

abbrev pub negated : Sum → Sum
negated none = none
negated (more m c p) = more m (neg_ℤ c) (negated p)

abbrev pub constant : ℤ → Sum
constant z = elim (is_zero z) [ true ↦ none | false ↦ more [] z none ]

abbrev pub expand : Term → Sum
expand (var i) = more (i ∷ []) (pos 1) none
expand (number z) = constant z
expand (plus s t) = sum_of (expand s) (expand t)
expand (times s t) = product_of_sums (expand s) (expand t)
expand (minus t) = negated (expand t)

-- ---- the value stays
one_product : (z : ℤ) → pos 1 *ℤ z ≡ z
one_product (pos n) = ap pos (omega arith)
one_product (negsuc n) = let e : 1 * suc n ≡ suc n = omega arith in ap (λ (k : ℕ). neg_ℤ (pos k)) e

product_one : (z : ℤ) → z *ℤ pos 1 ≡ z
product_one z = mul_comm_ℤ z (pos 1) ∙ one_product z

zero_product : (z : ℤ) → pos 0 *ℤ z ≡ pos 0
zero_product (pos n) = ap pos (omega arith)
zero_product (negsuc n) = let e : 0 * suc n ≡ 0 = omega arith in ap (λ (k : ℕ). neg_ℤ (pos k)) e

zero_is : (z : ℤ) → is_zero z ≡ true → z ≡ pos 0
zero_is (pos n) e = ap pos (eqb-true n 0 e)
zero_is (negsuc n) e = cc

side_same : (m n : List ℕ) → side m n ≡ same → m ≡ n
side_same [] [] e = refl
side_same [] (j ∷ n) e = cc
side_same (i ∷ m) [] e = cc
side_same (i ∷ m) (j ∷ n) e = go (side_same m n) (eqb i j) refl e
  where
    apart : (b : Bool) → (elim b [ true ↦ before | false ↦ after ]) ≡ same → (i ∷ m) ≡ (j ∷ n)
    apart true e = cc
    apart false e = cc

    go : (side m n ≡ same → m ≡ n) → (b : Bool) → eqb i j ≡ b → (elim b [ true ↦ side m n | false ↦ elim (ltb i j) [ true ↦ before | false ↦ after ] ]) ≡ same → (i ∷ m) ≡ (j ∷ n)
    go rest true f e = cc (eqb-true i j f, rest e)
    go rest false f e = apart (ltb i j) e

into_value : (env : List ℤ) (i : ℕ) (n : List ℕ) → product_of env (into i n) ≡ slice_index_or env i (pos 0) *ℤ product_of env n
into_value env i [] = refl
into_value env i (j ∷ n) = go (into_value env i n) (ltb j i)
  where
    go : product_of env (into i n) ≡ slice_index_or env i (pos 0) *ℤ product_of env n → (b : Bool) → product_of env (elim b [ true ↦ j ∷ into i n | false ↦ i ∷ j ∷ n ]) ≡ slice_index_or env i (pos 0) *ℤ (slice_index_or env j (pos 0) *ℤ product_of env n)
    go rest true = ap (λ (z : ℤ). slice_index_or env j (pos 0) *ℤ z) rest ∙ sym (mul_assoc_ℤ (slice_index_or env j (pos 0)) (slice_index_or env i (pos 0)) (product_of env n)) ∙ ap (λ (z : ℤ). z *ℤ product_of env n) (mul_comm_ℤ (slice_index_or env j (pos 0)) (slice_index_or env i (pos 0))) ∙ mul_assoc_ℤ (slice_index_or env i (pos 0)) (slice_index_or env j (pos 0)) (product_of env n)
    go rest false = refl

join_value : (env : List ℤ) (m n : List ℕ) → product_of env (join m n) ≡ product_of env m *ℤ product_of env n
join_value env [] n = sym (one_product (product_of env n))
join_value env (i ∷ m) n = into_value env i (join m n) ∙ ap (λ (z : ℤ). slice_index_or env i (pos 0) *ℤ z) (join_value env m n) ∙ sym (mul_assoc_ℤ (slice_index_or env i (pos 0)) (product_of env m) (product_of env n))

put_value : (env : List ℤ) (m : List ℕ) (c : ℤ) (p : Sum) → value_of_sum env (put m c p) ≡ c *ℤ product_of env m +ℤ value_of_sum env p
put_value env m c none = refl
put_value env m c (more n d p) = go (put_value env m c p) (side m n) refl
  where
    cancel : (x y z w : ℤ) → x ≡ y +ℤ z → x ≡ pos 0 → w ≡ y +ℤ (z +ℤ w)
    cancel x y z w e f = omega (arith, linear)

    gather : (x y z w : ℤ) → x ≡ y +ℤ z → x +ℤ w ≡ y +ℤ (z +ℤ w)
    gather x y z w e = omega (arith, linear)

    swap_in : (x y z w : ℤ) → w ≡ x +ℤ z → y +ℤ w ≡ x +ℤ (y +ℤ z)
    swap_in x y z w e = omega (arith, linear)

    meet : m ≡ n → (c +ℤ d) *ℤ product_of env n ≡ c *ℤ product_of env m +ℤ d *ℤ product_of env n
    meet e = add_mul_ℤ c d (product_of env n) ∙ ap (λ (k : List ℕ). c *ℤ product_of env k +ℤ d *ℤ product_of env n) (sym e)

    both : m ≡ n → (b : Bool) → is_zero (c +ℤ d) ≡ b → value_of_sum env (elim b [ true ↦ p | false ↦ more n (c +ℤ d) p ]) ≡ c *ℤ product_of env m +ℤ (d *ℤ product_of env n +ℤ value_of_sum env p)
    both e true f = cancel ((c +ℤ d) *ℤ product_of env n) (c *ℤ product_of env m) (d *ℤ product_of env n) (value_of_sum env p) (meet e) (ap (λ (z : ℤ). z *ℤ product_of env n) (zero_is (c +ℤ d) f) ∙ zero_product (product_of env n))
    both e false f = gather ((c +ℤ d) *ℤ product_of env n) (c *ℤ product_of env m) (d *ℤ product_of env n) (value_of_sum env p) (meet e)

    go : value_of_sum env (put m c p) ≡ c *ℤ product_of env m +ℤ value_of_sum env p → (s : Side) → side m n ≡ s → value_of_sum env (elim s [ before ↦ more m c (more n d p) | same ↦ (elim (is_zero (c +ℤ d)) [ true ↦ p | false ↦ more n (c +ℤ d) p ]) | after ↦ more n d (put m c p) ]) ≡ c *ℤ product_of env m +ℤ (d *ℤ product_of env n +ℤ value_of_sum env p)
    go rest before e = refl
    go rest same e = both (side_same m n e) (is_zero (c +ℤ d)) refl
    go rest after e = swap_in (c *ℤ product_of env m) (d *ℤ product_of env n) (value_of_sum env p) (value_of_sum env (put m c p)) rest

sum_of_value : (env : List ℤ) (p q : Sum) → value_of_sum env (sum_of p q) ≡ value_of_sum env p +ℤ value_of_sum env q
sum_of_value env none q = omega (arith, linear)
sum_of_value env (more m c p) q = reassoc (c *ℤ product_of env m) (value_of_sum env p) (value_of_sum env q) (value_of_sum env (sum_of p q)) (value_of_sum env (put m c (sum_of p q))) (sum_of_value env p q) (put_value env m c (sum_of p q))
  where
    reassoc : (x y z w v : ℤ) → w ≡ y +ℤ z → v ≡ x +ℤ w → v ≡ (x +ℤ y) +ℤ z
    reassoc x y z w v e f = omega (arith, linear)

swap_middle : (a b c d : ℤ) → (a *ℤ b) *ℤ (c *ℤ d) ≡ (a *ℤ c) *ℤ (b *ℤ d)
swap_middle a b c d =
    mul_assoc_ℤ a b (c *ℤ d)
    ∙ ap (λ (z : ℤ). a *ℤ z) (sym (mul_assoc_ℤ b c d) ∙ ap (λ (z : ℤ). z *ℤ d) (mul_comm_ℤ b c) ∙ mul_assoc_ℤ c b d)
    ∙ sym (mul_assoc_ℤ a c (b *ℤ d))

add_multiple_value : (env : List ℤ) (m : List ℕ) (c : ℤ) (q r : Sum) → value_of_sum env (add_multiple m c q r) ≡ (c *ℤ product_of env m) *ℤ value_of_sum env q +ℤ value_of_sum env r
add_multiple_value env m c none r = over (value_of_sum env r) ((c *ℤ product_of env m) *ℤ pos 0) (mul_comm_ℤ (c *ℤ product_of env m) (pos 0) ∙ zero_product (c *ℤ product_of env m))
  where
    over : (x y : ℤ) → y ≡ pos 0 → x ≡ y +ℤ x
    over x y e = omega (arith, linear)
add_multiple_value env m c (more n d q) r =
    step (value_of_sum env (put (join m n) (c *ℤ d) (add_multiple m c q r))) ((c *ℤ d) *ℤ product_of env (join m n)) (value_of_sum env (add_multiple m c q r)) ((c *ℤ product_of env m) *ℤ (d *ℤ product_of env n)) ((c *ℤ product_of env m) *ℤ value_of_sum env q) (value_of_sum env r) ((c *ℤ product_of env m) *ℤ (d *ℤ product_of env n +ℤ value_of_sum env q))
    (put_value env (join m n) (c *ℤ d) (add_multiple m c q r))
    (ap (λ (z : ℤ). (c *ℤ d) *ℤ z) (join_value env m n) ∙ swap_middle c d (product_of env m) (product_of env n))
    (add_multiple_value env m c q r)
    (mul_add_ℤ (c *ℤ product_of env m) (d *ℤ product_of env n) (value_of_sum env q))
  where
    step : (v x w y z u t : ℤ) → v ≡ x +ℤ w → x ≡ y → w ≡ z +ℤ u → t ≡ y +ℤ z → v ≡ t +ℤ u
    step v x w y z u t e f g h = omega (arith, linear)

product_of_sums_value : (env : List ℤ) (p q : Sum) → value_of_sum env (product_of_sums p q) ≡ value_of_sum env p *ℤ value_of_sum env q
product_of_sums_value env none q = sym (zero_product (value_of_sum env q))
product_of_sums_value env (more m c p) q =
    add_multiple_value env m c q (product_of_sums p q)
    ∙ ap (λ (z : ℤ). (c *ℤ product_of env m) *ℤ value_of_sum env q +ℤ z) (product_of_sums_value env p q)
    ∙ sym (add_mul_ℤ (c *ℤ product_of env m) (value_of_sum env p) (value_of_sum env q))

negated_value : (env : List ℤ) (p : Sum) → value_of_sum env (negated p) ≡ neg_ℤ (value_of_sum env p)
negated_value env none = refl
negated_value env (more m c p) = step (neg_ℤ c *ℤ product_of env m) (c *ℤ product_of env m) (value_of_sum env (negated p)) (value_of_sum env p) (neg_mul_ℤ c (product_of env m)) (negated_value env p)
  where
    step : (x y v w : ℤ) → x ≡ neg_ℤ y → v ≡ neg_ℤ w → x +ℤ v ≡ neg_ℤ (y +ℤ w)
    step x y v w e f = omega (arith, linear)

plain : (x y : ℤ) → x ≡ y → x +ℤ pos 0 ≡ y
plain x y e = omega (arith, linear)

constant_value : (env : List ℤ) (z : ℤ) → value_of_sum env (constant z) ≡ z
constant_value env z = go (is_zero z) refl
  where
    go : (b : Bool) → is_zero z ≡ b → value_of_sum env (elim b [ true ↦ none | false ↦ more [] z none ]) ≡ z
    go true e = sym (zero_is z e)
    go false e = plain (z *ℤ pos 1) z (product_one z)

expand_value : (env : List ℤ) (t : Term) → value_of_sum env (expand t) ≡ value env t
expand_value env (var i) = plain (pos 1 *ℤ (slice_index_or env i (pos 0) *ℤ pos 1)) (slice_index_or env i (pos 0)) (one_product (slice_index_or env i (pos 0) *ℤ pos 1) ∙ product_one (slice_index_or env i (pos 0)))
expand_value env (number z) = constant_value env z
expand_value env (plus s t) = sum_of_value env (expand s) (expand t) ∙ ap (λ (z : ℤ). z +ℤ value_of_sum env (expand t)) (expand_value env s) ∙ ap (λ (z : ℤ). value env s +ℤ z) (expand_value env t)
expand_value env (times s t) = product_of_sums_value env (expand s) (expand t) ∙ ap (λ (z : ℤ). z *ℤ value_of_sum env (expand t)) (expand_value env s) ∙ ap (λ (z : ℤ). value env s *ℤ z) (expand_value env t)
expand_value env (minus t) = negated_value env (expand t) ∙ ap neg_ℤ (expand_value env t)

pub equal : (env : List ℤ) (s t : Term) → expand s ≡ expand t → value env s ≡ value env t
equal env s t e = sym (expand_value env s) ∙ ap (value_of_sum env) e ∙ expand_value env t
