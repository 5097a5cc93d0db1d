-- The matrices of K, ROT_X and ROT_Y as products, and that of Y up to a factor.
use Rattle.std.proofs.Common.{◌≡◌, ◌≢◌, ℕ, Bool, true, false, ℤ, pos, neg_ℤ, [], refl, ap}
use Rattle.state_model.specs.Coefficient.{Coefficient, zero_coefficient, one_coefficient, ◌⊕◌, ◌⊗◌, negated, root}
use Rattle.state_model.specs.Gate.{Matrix, imaginary, matrix, entry}
use Rattle.state_model.specs.Undo.{product}
use Rattle.state_model.specs.declared.Gate.TheVariants.{X, Y, H, K, RotX, RotY, RotZ}
use Rattle.state_model.proofs.Polynomial.{number, minus}
use Rattle.state_model.proofs.Expressions.{Quad, quad, add_quad, mul_quad, equal_quads, coordinates}

same_matrix : (m n : Matrix) → m.zero_zero ≡ n.zero_zero → m.zero_one ≡ n.zero_one → m.one_zero ≡ n.one_zero → m.one_one ≡ n.one_one → m ≡ n
same_matrix m n a b c d = λ i. record { zero_zero = a i; zero_one = b i; one_zero = c i; one_one = d i }

abbrev closed : ℤ → ℤ → ℤ → ℤ → Quad
closed a b c d = record { a = number a; b = number b; c = number c; d = number d }

abbrev nought : Quad
nought = closed (pos 0) (pos 0) (pos 0) (pos 0)

abbrev one : Quad
one = closed (pos 1) (pos 0) (pos 0) (pos 0)

abbrev minus_one : Quad
minus_one = closed (neg_ℤ (pos 1)) (pos 0) (pos 0) (pos 0)

abbrev quarter : Quad
quarter = closed (pos 0) (pos 0) (pos 1) (pos 0)

abbrev back : Quad
back = closed (pos 0) (pos 0) (neg_ℤ (pos 1)) (pos 0)

abbrev negated_quad : Quad → Quad
negated_quad z = record { a = minus z.a; b = minus z.b; c = minus z.c; d = minus z.d }

-- matrices of expressions
record Square : Type 0 where
  zero_zero : Quad
  zero_one : Quad
  one_zero : Quad
  one_one : Quad

abbrev square : Quad → Quad → Quad → Quad → Square
square a b c d = record { zero_zero = a; zero_one = b; one_zero = c; one_one = d }

abbrev times_square : Square → Square → Square
times_square m n = record {
  zero_zero = add_quad (mul_quad m.zero_zero n.zero_zero) (mul_quad m.zero_one n.one_zero);
  zero_one = add_quad (mul_quad m.zero_zero n.zero_one) (mul_quad m.zero_one n.one_one);
  one_zero = add_quad (mul_quad m.one_zero n.zero_zero) (mul_quad m.one_one n.one_zero);
  one_one = add_quad (mul_quad m.one_zero n.zero_one) (mul_quad m.one_one n.one_one);
}

abbrev mixing : Square
mixing = square one one one minus_one

abbrev turning : Quad → Square
turning k = square one nought nought k

pub k_product : product (matrix (RotZ 2)) (product (matrix H) (matrix (RotZ 6))) ≡ matrix K
unfolding product matrix imaginary root
k_product = refl

-- with any coefficient for the turn
mixed_turn : (c : Coefficient) → product (matrix H) (product (record { zero_zero = one_coefficient; zero_one = zero_coefficient; one_zero = zero_coefficient; one_one = c }) (matrix H))
    ≡ record { zero_zero = one_coefficient ⊕ c; zero_one = one_coefficient ⊕ negated c; one_zero = one_coefficient ⊕ negated c; one_one = one_coefficient ⊕ c }
unfolding product matrix
mixed_turn c =
    let s : Square = times_square mixing (times_square (turning (quad 0)) mixing) in
    same_matrix _ _
    (equal_quads (coordinates c []) (times_square mixing (times_square (turning (quad 0)) mixing)).zero_zero (add_quad one (quad 0)) refl refl refl refl)
    (equal_quads (coordinates c []) (times_square mixing (times_square (turning (quad 0)) mixing)).zero_one (add_quad one (negated_quad (quad 0))) refl refl refl refl)
    (equal_quads (coordinates c []) (times_square mixing (times_square (turning (quad 0)) mixing)).one_zero (add_quad one (negated_quad (quad 0))) refl refl refl refl)
    (equal_quads (coordinates c []) (times_square mixing (times_square (turning (quad 0)) mixing)).one_one (add_quad one (quad 0)) refl refl refl refl)

pub x_product : (k : ℕ) → product (matrix H) (product (matrix (RotZ k)) (matrix H)) ≡ matrix (RotX k)
unfolding matrix
x_product k = mixed_turn (root k)

abbrev turned_square : Square
turned_square = times_square (turning quarter) (times_square mixing (times_square (turning (quad 0)) (times_square mixing (turning back))))

turned_turn : (c : Coefficient) → product (matrix (RotZ 2)) (product (matrix H) (product (record { zero_zero = one_coefficient; zero_one = zero_coefficient; one_zero = zero_coefficient; one_one = c }) (product (matrix H) (matrix (RotZ 6)))))
    ≡ record { zero_zero = one_coefficient ⊕ c; zero_one = negated imaginary ⊗ (one_coefficient ⊕ negated c); one_zero = imaginary ⊗ (one_coefficient ⊕ negated c); one_one = one_coefficient ⊕ c }
unfolding product matrix imaginary root
turned_turn c = same_matrix _ _
    (equal_quads (coordinates c []) turned_square.zero_zero (add_quad one (quad 0)) refl refl refl refl)
    (equal_quads (coordinates c []) turned_square.zero_one (mul_quad back (add_quad one (negated_quad (quad 0)))) refl refl refl refl)
    (equal_quads (coordinates c []) turned_square.one_zero (mul_quad quarter (add_quad one (negated_quad (quad 0)))) refl refl refl refl)
    (equal_quads (coordinates c []) turned_square.one_one (add_quad one (quad 0)) refl refl refl refl)

pub y_product : (k : ℕ) → product (matrix (RotZ 2)) (product (matrix H) (product (matrix (RotZ k)) (product (matrix H) (matrix (RotZ 6))))) ≡ matrix (RotY k)
unfolding matrix
y_product k = turned_turn (root k)

abbrev row_quad : Quad → Quad → Quad
row_quad m n = add_quad (mul_quad m (quad 0)) (mul_quad n (quad 4))

-- Y is the exchange and then the negation, up to the inverse of the imaginary unit
pub y_entry : (b : Bool) (u v : Coefficient) → entry (matrix Y) b u v ≡ root 6 ⊗ entry (product (matrix (RotZ 4)) (matrix X)) b u v
unfolding entry product matrix imaginary root
y_entry false u v = equal_quads (coordinates u (coordinates v [])) (row_quad nought back) (mul_quad back (row_quad nought one)) refl refl refl refl
y_entry true u v = equal_quads (coordinates u (coordinates v [])) (row_quad quarter nought) (mul_quad back (row_quad minus_one nought)) refl refl refl refl

pub back_nonzero : root 6 ≢ zero_coefficient
unfolding root
back_nonzero e = let f : neg_ℤ (pos 1) ≡ pos 0 = ap (λ (z : Coefficient). z.c) e in cc f
