-- Two lists of which a relation holds at each place.
use Rattle.std.proofs.Common.{◌≡◌, ℕ, zero, suc, ◌<◌, List, [], ◌∷◌, length, get_or, subst, arith}
use Rattle.std.specs.List.{AllZip}

-- the relation holds of two values that are these elements
pub record HoldsOf {A : Type 0} (R : A → A → Type 0) (x y : A) : Type 0 where
  pub old : A
  pub new : A
  pub old_is : old ≡ x
  pub new_is : new ≡ y
  pub holds : R old new

pub zipped : {A : Type 0} (R : A → A → Type 0) (xs ys : List A) → length ys ≡ length xs → ((i : ℕ) (d : A) → i < length xs → HoldsOf R (get_or xs i d) (get_or ys i d)) → AllZip R xs ys
zipped R [] [] same each = tt
zipped R [] (y ∷ ys) same each = absurd (omega (arith, same))
zipped R (x ∷ xs) [] same each = absurd (omega (arith, same))
zipped R (x ∷ xs) (y ∷ ys) same each =
    let first = each zero x (omega arith) in (
      subst (λ a. R a y) first.old_is (subst (R first.old) first.new_is first.holds),
      zipped R xs ys (omega (arith, same)) (λ i d within. each (suc i) d (omega (arith, within))),
    )
