-- Sums of weights.
--     weights_above    a sum with a row is above 0
--     less_along       a comparison is the same for proportional sums
--     split_sum        a sum of products over a group and over other numbers is a product of sums
use Rattle.std.proofs.Common.{◌≡◌, ◌≢◌, ℕ, true, List, [], ◌∷◌, ◌++◌, refl, sym, ap, ◌∙◌, arith}
use borrow.Author.Differences.{ints, same_in, sum_is_lem, neg_is}
use Rattle.state_model.specs.Coefficient.{zero_coefficient, Weight, no_weight, weight_sum, scaled, weight_difference, is_positive, is_less}
use Rattle.state_model.specs.Row.{with_bit, is_listed, AgreeOutside}
use Rattle.state_model.specs.StateVector.{Vector}
use Rattle.state_model.specs.Measurement.{weight_of}
use Rattle.state_model.proofs.Draws.{same_weight, times, times-sum}
use Rattle.state_model.proofs.Integers.{expand}
use Rattle.state_model.proofs.Kept.{sum_squares, weights_natural, no_sum, positive}
use Rattle.state_model.proofs.Order.{IsAbove, product_x, product_y, positive-product}
use Rattle.state_model.proofs.Parts.{no_bit_outside}
use Rattle.state_model.proofs.RegisterSums.{weight_on, weight_on-same}
use Rattle.state_model.proofs.RowLaws.{agree-with_bit, zero_clear}
use Rattle.cell_laws.proofs.Lengths.{first_listed, then_listed}

-- a sum with a row is above 0
pub weights_above : (v : Vector) (xs : List ℕ) (x : ℕ) → is_listed xs x ≡ true → v x ≢ zero_coefficient → IsAbove ((weight_of v xs).x) ((weight_of v xs).y)
weights_above v xs x inside row = positive (sum_squares v xs) (weight_of v xs) (weights_natural v xs) (λ e. row (no_sum v xs x inside e))

-- ---- products
pub times-none : (r : Weight) → times no_weight r ≡ no_weight
unfolding times product_x product_y
times-none r = same_weight _ _ (omega (arith, ints)) (omega (arith, ints))

pub times_comm : (p q : Weight) → times p q ≡ times q p
unfolding times product_x product_y
times_comm p q = same_weight _ _ (omega (arith, ints)) (omega (arith, ints))

pub times-scaled : (n : ℕ) (p r : Weight) → times (scaled n p) r ≡ scaled n (times p r)
unfolding times product_x product_y
times-scaled n p r = same_weight _ _ (simp expand) (simp expand)

-- a factor above 0 leaves a comparison as it is
less_times : (p q r : Weight) → IsAbove r.x r.y → is_less (times p r) (times q r) ≡ is_less p q
unfolding is_less
less_times p q r h = ap is_positive (sym (difference q p)) ∙ sign (weight_difference q p)
  where
    difference : (q p : Weight) → times (weight_difference q p) r ≡ weight_difference (times q r) (times p r)
    difference q p = unfold times product_x product_y in same_weight _ _ (simp expand (omega (arith, same_in, sum_is_lem, neg_is))) (simp expand (omega (arith, same_in, sum_is_lem, neg_is)))

    sign : (p : Weight) → is_positive (times p r) ≡ is_positive p
    sign p = unfold is_positive times in positive-product p.x p.y r.x r.y h

-- the comparison is the same for proportional sums
pub less_along : (p q s t a b : Weight) → IsAbove a.x a.y → IsAbove b.x b.y → times p a ≡ times s b → times q a ≡ times t b → is_less p q ≡ is_less s t
less_along p q s t a b above_a above_b e f =
    sym (less_times p q a above_a) ∙ ap (λ w. is_less w (times q a)) e ∙ ap (is_less (times s b)) f ∙ less_times s t b above_b

-- ---- sums over rows
-- a sum times a weight
pub weight_on-times : (g : List ℕ) (f : ℕ → Weight) (a : Weight) → times (weight_on g f) a ≡ weight_on g (λ x. times (f x) a)
unfolding weight_on
weight_on-times [] f a = refl
weight_on-times (q ∷ g) f a =
    times-sum (weight_on g f) (weight_on g (λ x. f (with_bit q true x))) a
    ∙ ap (λ w. weight_sum w (times (weight_on g (λ x. f (with_bit q true x))) a)) (weight_on-times g f a)
    ∙ ap (weight_sum (weight_on g (λ x. times (f x) a))) (weight_on-times g (λ x. f (with_bit q true x)) a)

-- where each weight times a is a product of one that the bits of g do not change and one that those of the others do not, so is the sum
pub split_sum : (rest g : List ℕ) (a : Weight) (f h e : ℕ → Weight)
    → ((x : ℕ) → times (f x) a ≡ times (e x) (h x)) → ((x y : ℕ) → AgreeOutside g x y → h x ≡ h y) → ((p : ℕ) → is_listed rest p ≡ true → (x : ℕ) → e (with_bit p true x) ≡ e x)
    → times (weight_on (rest ++ g) f) a ≡ times (weight_on g e) (weight_on rest h)
unfolding weight_on
split_sum [] g a f h e each blind free =
    weight_on-times g f a
    ∙ weight_on-same g (λ x. times (f x) a) (λ x. times (e x) (h 0)) (λ x is. each x ∙ ap (times (e x)) (blind x 0 (λ p out. no_bit_outside g x p is out ∙ sym (zero_clear p))))
    ∙ sym (weight_on-times g e (h 0))
split_sum (p ∷ rest) g a f h e each blind free =
    let h' = λ (x : ℕ). h (with_bit p true x) in
    times-sum (weight_on (rest ++ g) f) (weight_on (rest ++ g) (λ x. f (with_bit p true x))) a
    ∙ ap (λ w. weight_sum w (times (weight_on (rest ++ g) (λ x. f (with_bit p true x))) a)) (split_sum rest g a f h e each blind (λ q i. free q (then_listed p rest q i)))
    ∙ ap (weight_sum (times (weight_on g e) (weight_on rest h)))
    (split_sum rest g a (λ x. f (with_bit p true x)) h' e (λ x. each (with_bit p true x) ∙ ap (λ w. times w (h (with_bit p true x))) (free p (first_listed p rest) x))
    (λ x y near. blind (with_bit p true x) (with_bit p true y) (agree-with_bit g p true x y near)) (λ q i. free q (then_listed p rest q i)))
    ∙ ap (λ w. weight_sum w (times (weight_on g e) (weight_on rest h'))) (times_comm (weight_on g e) (weight_on rest h))
    ∙ ap (weight_sum (times (weight_on rest h) (weight_on g e))) (times_comm (weight_on g e) (weight_on rest h'))
    ∙ sym (times-sum (weight_on rest h) (weight_on rest h') (weight_on g e))
    ∙ times_comm (weight_sum (weight_on rest h) (weight_on rest h')) (weight_on g e)
