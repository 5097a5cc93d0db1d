-- Greatest common divisors by Euclid's steps, and whole multiples of reduced vectors.
--     common_of         a common divisor of a list that is a combination of its entries
--     whole_multiple    a vector proportional to a reduced one is a whole multiple of it
use Rattle.std.proofs.Common.{◌≡◌, ℕ, suc, zero, ℤ, pos, negsuc, ◌≤ℤ◌, ◌<ℤ◌, refl, sym, ap, ◌∙◌, arith, List, [], ◌∷◌, map, length}
use Rattle.std.proofs.lemmas.Int.{by_lt_z}
use Rattle.state_model.specs.Coefficient.{Coefficient, zero_coefficient, one_coefficient, ◌⊕◌, ◌⊖◌, ◌⊗◌, weight}
use Rattle.state_model.specs.Divisors.{norm, Divides}
use Rattle.state_model.specs.CoefficientList.{at, DividesAll, IsReduced, IsProportional}
use Rattle.state_model.proofs.Domain.{zero_coefficient-⊗}
use Rattle.state_model.proofs.Ring.{same_coordinates, ⊗_comm, ⊗_assoc, ⊗-⊕}
use Rattle.state_model.proofs.Expressions.{quad, constant_quad, add_quad, sub_quad, mul_quad, equal_quads, coordinates}
use Rattle.state_model.proofs.Inequalities.{order, four_squares}
use Rattle.state_model.proofs.Norms.{weight_norm_zero, norm_not_negative}
use Rattle.state_model.proofs.Division.{quotient}

-- the sum of the products, term by term
abbrev pub combination : List Coefficient → List Coefficient → Coefficient
combination [] vs = zero_coefficient
combination (k ∷ ks) [] = zero_coefficient
combination (k ∷ ks) (v ∷ vs) = k ⊗ v ⊕ combination ks vs

pub zero_of_norm : (u : Coefficient) → norm u ≤ℤ pos 0 → u ≡ zero_coefficient
zero_of_norm u h =
    let k = norm_not_negative u in
    let e : (weight u).x ≡ pos 0 = weight_norm_zero (weight u) (omega (arith, order)) in
    let f = four_squares u.a u.b u.c u.d (omega (arith, order)) in
    same_coordinates u zero_coefficient (f.0) (f.1) (f.2) (f.3)

pub one-⊗ : (z : Coefficient) → one_coefficient ⊗ z ≡ z
one-⊗ z = let t = quad 0 in equal_quads (coordinates z []) (mul_quad (constant_quad (pos 1)) t) t refl refl refl refl

pub divides_refl : (z : Coefficient) → Divides z z
divides_refl z = (one_coefficient, sym (one-⊗ z))

pub divides_zero : (z : Coefficient) → Divides z zero_coefficient
divides_zero z = (zero_coefficient, sym (zero_coefficient-⊗ z))

-- g divides x * z + y * u where it divides z and u
pub divides_both : (g z u x y : Coefficient) → Divides g z → Divides g u → Divides g (x ⊗ z ⊕ y ⊗ u)
divides_both g z u x y p q = ((x ⊗ p.0 ⊕ y ⊗ q.0), ap (λ (t : Coefficient). x ⊗ t ⊕ y ⊗ u) (p.1) ∙ ap (λ (t : Coefficient). x ⊗ (p.0 ⊗ g) ⊕ y ⊗ t) (q.1) ∙ gather (p.0) (q.0))
  where
    gather : (k l : Coefficient) → x ⊗ (k ⊗ g) ⊕ y ⊗ (l ⊗ g) ≡ (x ⊗ k ⊕ y ⊗ l) ⊗ g
    gather k l =
        let gg = quad 0 in let xx = quad 4 in let yy = quad 8 in let kk = quad 12 in let ll = quad 16 in
        equal_quads (coordinates g (coordinates x (coordinates y (coordinates k (coordinates l [])))))
        (add_quad (mul_quad xx (mul_quad kk gg)) (mul_quad yy (mul_quad ll gg))) (mul_quad (add_quad (mul_quad xx kk) (mul_quad yy ll)) gg) refl refl refl refl

-- ---- two coefficients
pub record Common (z u : Coefficient) : Type 0 where
  pub divisor : Coefficient
  pub left : Coefficient
  pub right : Coefficient
  pub sum : divisor ≡ left ⊗ z ⊕ right ⊗ u
  pub divides_left : Divides divisor z
  pub divides_right : Divides divisor u

-- z = (z - q * u) + q * u
apart : (z u q : Coefficient) → one_coefficient ⊗ (z ⊖ q ⊗ u) ⊕ q ⊗ u ≡ z
apart z u q =
    let zz = quad 0 in let uu = quad 4 in let qq = quad 8 in
    equal_quads (coordinates z (coordinates u (coordinates q []))) (add_quad (mul_quad (constant_quad (pos 1)) (sub_quad zz (mul_quad qq uu))) (mul_quad qq uu)) zz refl refl refl refl

turned : (z u q m n : Coefficient) → m ⊗ u ⊕ n ⊗ (z ⊖ q ⊗ u) ≡ n ⊗ z ⊕ (m ⊖ n ⊗ q) ⊗ u
turned z u q m n =
    let zz = quad 0 in let uu = quad 4 in let qq = quad 8 in let mm = quad 12 in let nn = quad 16 in
    equal_quads (coordinates z (coordinates u (coordinates q (coordinates m (coordinates n [])))))
    (add_quad (mul_quad mm uu) (mul_quad nn (sub_quad zz (mul_quad qq uu)))) (add_quad (mul_quad nn zz) (mul_quad (sub_quad mm (mul_quad nn qq)) uu)) refl refl refl refl

common_zero : (z u : Coefficient) → u ≡ zero_coefficient → Common z u
common_zero z u e = record {
  divisor = z;
  left = one_coefficient;
  right = zero_coefficient;
  sum = sym (trivial z u);
  divides_left = divides_refl z;
  divides_right = (zero_coefficient, e ∙ sym (zero_coefficient-⊗ z));
}
  where
    trivial : (z u : Coefficient) → one_coefficient ⊗ z ⊕ zero_coefficient ⊗ u ≡ z
    trivial z u = let s = quad 0 in let t = quad 4 in equal_quads (coordinates z (coordinates u [])) (add_quad (mul_quad (constant_quad (pos 1)) s) (mul_quad (constant_quad (pos 0)) t)) s refl refl refl refl

common_step : (z u q : Coefficient) → Common u (z ⊖ q ⊗ u) → Common z u
common_step z u q c = record {
  divisor = c.divisor;
  left = c.right;
  right = c.left ⊖ c.right ⊗ q;
  sum = c.sum ∙ turned z u q c.left c.right;
  divides_left = let d = divides_both c.divisor (z ⊖ q ⊗ u) u one_coefficient q c.divides_right c.divides_left in (d.0, sym (apart z u q) ∙ d.1);
  divides_right = c.divides_left;
}

common_within : (k : ℕ) (z u : Coefficient) → norm u ≤ℤ pos k → Common z u
common_within zero z u h = common_zero z u (zero_of_norm u h)
common_within (suc k) z u h =
    by_lt_z (pos 0) (norm u)
    (λ p. let q : (q : Coefficient) × (norm (z ⊖ q ⊗ u) <ℤ norm u) = quotient z u p in
    common_step z u (q.0) (common_within k u (z ⊖ q.0 ⊗ u) (shrink (norm (z ⊖ q.0 ⊗ u)) (norm u) k (q.1) h)))
    (λ p. common_zero z u (zero_of_norm u p))
  where
    shrink : (x y : ℤ) (k : ℕ) → x <ℤ y → y ≤ℤ pos (suc k) → x ≤ℤ pos k
    shrink x y k p q = omega (arith, order)

measure_of : (x : ℤ) → (k : ℕ) × (x ≤ℤ pos k)
measure_of (pos n) = (n, omega (arith, order))
measure_of (negsuc n) = (0, omega (arith, order))

pub common : (z u : Coefficient) → Common z u
common z u = let k = measure_of (norm u) in common_within (k.0) z u (k.1)

-- ---- lists
pub record CommonOf (vs : List Coefficient) : Type 0 where
  pub divisor : Coefficient
  pub factors : List Coefficient
  pub sum : divisor ≡ combination factors vs
  pub divides : DividesAll divisor vs

pub combination_scaled : (n : Coefficient) (ks vs : List Coefficient) → n ⊗ combination ks vs ≡ combination (map (λ (t : Coefficient). n ⊗ t) ks) vs
combination_scaled n [] vs = ⊗_comm n zero_coefficient ∙ zero_coefficient-⊗ n
combination_scaled n (k ∷ ks) [] = ⊗_comm n zero_coefficient ∙ zero_coefficient-⊗ n
combination_scaled n (k ∷ ks) (v ∷ vs) =
    ⊗-⊕ n (k ⊗ v) (combination ks vs)
    ∙ ap (λ (t : Coefficient). t ⊕ n ⊗ combination ks vs) (sym (⊗_assoc n k v))
    ∙ ap (λ (t : Coefficient). (n ⊗ k) ⊗ v ⊕ t) (combination_scaled n ks vs)

pub divides_trans : (g h z : Coefficient) → Divides g h → Divides h z → Divides g z
divides_trans g h z p q = ((q.0 ⊗ p.0), q.1 ∙ ap (λ (t : Coefficient). q.0 ⊗ t) (p.1) ∙ sym (⊗_assoc (q.0) (p.0) g))

divides_cons : (g v : Coefficient) (vs : List Coefficient) → Divides g v → DividesAll g vs → DividesAll g (v ∷ vs)
divides_cons g v vs h k zero = h
divides_cons g v vs h k (suc i) = k i

pub common_of : (vs : List Coefficient) → CommonOf vs
common_of [] = record { divisor = zero_coefficient; factors = []; sum = refl; divides = λ i. divides_zero zero_coefficient }
common_of (v ∷ vs) =
    let r : CommonOf vs = common_of vs in
    let c : Common v r.divisor = common v r.divisor in
    record {
      divisor = c.divisor;
      factors = c.left ∷ map (λ (t : Coefficient). c.right ⊗ t) r.factors;
      sum = c.sum ∙ ap (λ (t : Coefficient). c.left ⊗ v ⊕ t) (ap (λ (t : Coefficient). c.right ⊗ t) r.sum ∙ combination_scaled c.right r.factors vs);
      divides = divides_cons c.divisor v vs c.divides_left (λ i. divides_trans c.divisor r.divisor (at vs i) c.divides_right (r.divides i));
    }

-- ---- a whole vector that is proportional to a reduced one is a whole multiple of it
combination_turned : (ks vs us : List Coefficient) (v u : Coefficient) → length us ≡ length vs → ((i : ℕ) → at vs i ⊗ u ≡ at us i ⊗ v) → combination ks vs ⊗ u ≡ combination ks us ⊗ v
combination_turned [] vs us v u e h = zero_coefficient-⊗ u ∙ sym (zero_coefficient-⊗ v)
combination_turned (k ∷ ks) [] [] v u e h = zero_coefficient-⊗ u ∙ sym (zero_coefficient-⊗ v)
combination_turned (k ∷ ks) [] (x ∷ us) v u e h = absurd (omega arith)
combination_turned (k ∷ ks) (y ∷ vs) [] v u e h = absurd (omega arith)
combination_turned (k ∷ ks) (y ∷ vs) (x ∷ us) v u e h =
    spread k y (combination ks vs) u
    ∙ ap (λ (t : Coefficient). k ⊗ t ⊕ combination ks vs ⊗ u) (h 0)
    ∙ ap (λ (t : Coefficient). k ⊗ (x ⊗ v) ⊕ t) (combination_turned ks vs us v u (omega arith) (λ i. h (suc i)))
    ∙ sym (spread k x (combination ks us) v)
  where
    spread : (k y s u : Coefficient) → (k ⊗ y ⊕ s) ⊗ u ≡ k ⊗ (y ⊗ u) ⊕ s ⊗ u
    spread k y s u =
        let kk = quad 0 in let yy = quad 4 in let ss = quad 8 in let uu = quad 12 in
        equal_quads (coordinates k (coordinates y (coordinates s (coordinates u []))))
        (mul_quad (add_quad (mul_quad kk yy) ss) uu) (add_quad (mul_quad kk (mul_quad yy uu)) (mul_quad ss uu)) refl refl refl refl

pub whole_multiple : (vs us : List Coefficient) → IsReduced vs → length us ≡ length vs → IsProportional vs us → (m : Coefficient) × ((j : ℕ) → at us j ≡ m ⊗ at vs j)
whole_multiple vs us h e p =
    let c : CommonOf vs = common_of vs in
    let d : Divides c.divisor one_coefficient = h c.divisor c.divides in
    let ks : List Coefficient = map (λ (t : Coefficient). d.0 ⊗ t) c.factors in
    let one : combination ks vs ≡ one_coefficient = sym (combination_scaled (d.0) c.factors vs) ∙ sym (ap (λ (t : Coefficient). d.0 ⊗ t) c.sum) ∙ sym (d.1) in
    (combination ks us, λ j. sym (one-⊗ (at us j)) ∙ sym (ap (λ (t : Coefficient). t ⊗ at us j) one) ∙ combination_turned ks vs us (at vs j) (at us j) e (λ i. p i j))
