-- Rows of actors that are changed one after the other, and links that are led on one at a time.
use Rattle.std.proofs.Common.{◌≡◌, ℕ, zero, suc, ◌+◌, ◌<◌, ◌≤◌, List, [], ◌∷◌, length, map, set, get_or, Some, refl, sym, ap, subst, ◌∙◌, arith}
use Rattle.std.specs.Prelude.{All, IfSome, slice_get}
use Rattle.std.proofs.lemmas.List.Elements.{All-nil, All-cons}
use Rattle.cqc_server.specs.Replay.{AreLed}

pub one_more : (n : ℕ) → n + 1 ≡ suc n
one_more n = omega arith

-- so many elements are changed
abbrev pub front : {A : Type 0} → (A → A) → ℕ → List A → List A
front f zero xs = xs
front f (suc i) [] = []
front f (suc i) (x ∷ xs) = f x ∷ front f i xs

-- the next one is changed
next_front : {A : Type 0} (f : A → A) (i : ℕ) (xs : List A) (x y : A) → slice_get (front f i xs) i ≡ Some x → y ≡ f x → set (front f i xs) i y ≡ front f (suc i) xs
next_front {A} f zero [] x y e is = absurd (never e)
  where
    never : slice_get [] zero ≡ Some x → ⊥
    never e = cc
next_front {A} f (suc i) [] x y e is = absurd (never e)
  where
    never : slice_get [] (suc i) ≡ Some x → ⊥
    never e = cc
next_front {A} f zero (z ∷ zs) x y e is = ap (λ w. w ∷ zs) (is ∙ ap f (sym (same e)))
  where
    same : Some z ≡ Some x → z ≡ x
    same e = cc
next_front {A} f (suc i) (z ∷ zs) x y e is = ap (λ ys. f z ∷ ys) (next_front f i zs x y e is)

pub front_more : {A : Type 0} (f : A → A) (i j : ℕ) (xs : List A) (x y : A) → j ≡ suc i → slice_get (front f i xs) i ≡ Some x → y ≡ f x → set (front f i xs) i y ≡ front f j xs
front_more f i j xs x y next e is = next_front f i xs x y e is ∙ ap (λ (n : ℕ). front f n xs) (sym next)

pub front_done : {A : Type 0} (f : A → A) (i : ℕ) (xs : List A) → length xs ≤ i → front f i xs ≡ map f xs
front_done f zero [] h = refl
front_done f (suc i) [] h = refl
front_done f zero (x ∷ xs) h = absurd (omega (arith, h))
front_done f (suc i) (x ∷ xs) h = ap (λ ys. f x ∷ ys) (front_done f i xs (omega (arith, h)))

-- the element at a place within the list
pub get_there : {A B : Type 0} (f : A → B) (xs : List A) (i : ℕ) (d : A) → i < length xs → slice_get (map f xs) i ≡ Some (f (get_or xs i d))
get_there f [] i d h = absurd (omega (arith, h))
get_there f (x ∷ xs) zero d h = refl
get_there f (x ∷ xs) (suc i) d h = get_there f xs i d (omega (arith, h))

-- a fact of the elements before a place, when the one there is changed
pub put_kept : {A : Type 0} (P : A → Type 0) (xs : List A) (i k : ℕ) (x : A) → ((n : ℕ) → n < i → IfSome (slice_get xs n) P) → P x → k < suc i → IfSome (slice_get (set xs i x) k) P
put_kept P [] i zero x f p h = tt
put_kept P [] i (suc k) x f p h = tt
put_kept P (y ∷ ys) zero zero x f p h = p
put_kept P (y ∷ ys) zero (suc k) x f p h = absurd (omega (arith, h))
put_kept P (y ∷ ys) (suc i) zero x f p h = f zero (omega arith)
put_kept P (y ∷ ys) (suc i) (suc k) x f p h = put_kept P ys i k x (λ n g. f (suc n) (omega (arith, g))) p (omega (arith, h))

pub all_kept : {A : Type 0} (P : A → Type 0) (xs : List A) → ((n : ℕ) → n < length xs → IfSome (slice_get xs n) P) → All P xs
all_kept P [] f = All-nil P
all_kept P (x ∷ xs) f = All-cons P x xs (f zero (omega arith)) (all_kept P xs (λ n g. f (suc n) (omega (arith, g))))

-- ---- links
module _ {L : Type 0} (led : L → L → Type 0) where
  pub led_nowhere : ((x : L) → led x x) → (xs : List L) → AreLed led xs xs
  led_nowhere stay [] = tt
  led_nowhere stay (x ∷ xs) = (stay x, led_nowhere stay xs)

  pub led_put : ((x y z : L) → led x y → led y z → led x z) → (k : ℕ) (xs ys : List L) (y z : L) → slice_get ys k ≡ Some y → led y z → AreLed led xs ys → AreLed led xs (set ys k z)
  led_put on k [] [] y z e more f = tt
  led_put on k [] (w ∷ ws) y z e more f = absurd f
  led_put on k (x ∷ xs) [] y z e more f = absurd f
  led_put on zero (x ∷ xs) (w ∷ ws) y z e more f = (on x w z f.0 (subst (λ v. led v z) (sym (same e)) more), f.1)
    where
      same : Some w ≡ Some y → w ≡ y
      same e = cc
  led_put on (suc k) (x ∷ xs) (w ∷ ws) y z e more f = (f.0, led_put on k xs ws y z e more f.1)

  pub led_on : ((x y z : L) → led x y → led y z → led x z) → (xs ys zs : List L) → AreLed led xs ys → AreLed led ys zs → AreLed led xs zs
  led_on on [] [] [] f g = tt
  led_on on [] [] (z ∷ zs) f g = absurd g
  led_on on [] (y ∷ ys) zs f g = absurd f
  led_on on (x ∷ xs) [] zs f g = absurd f
  led_on on (x ∷ xs) (y ∷ ys) [] f g = absurd g
  led_on on (x ∷ xs) (y ∷ ys) (z ∷ zs) f g = (on x y z f.0 g.0, led_on on xs ys zs f.1 g.1)
