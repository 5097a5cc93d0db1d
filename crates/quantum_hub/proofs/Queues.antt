-- What a look at a node finds, as the network's state has it. The main results are `nothing_waits` and `something_waits`.
use Rattle.std.proofs.Common.{ℕ, ◌≡◌, ◌≢◌, ◌+◌, nat_lt, not, Bool, true, false, cond, List, [], ◌∷◌, length, map, filter, None, Some, refl, sym, ap, ◌∙◌, arith}
use Rattle.std.specs.Prelude.{position}
use Rattle.std.specs.List.{position_or_len}
use Rattle.network_model.specs.Network.{Network, Waiting, queue}
use Rattle.network_model.specs.Factored.{FitsNode}
use Rattle.network_model.specs.declared.Line.{Line}
use Rattle.virtual_node.specs.Node.{Node, is_waiting, look_of, told_of, held_map, arrived_map}
use Rattle.virtual_node.specs.declared.arrival.Look.TheVariants.{Empty}

-- ---- whether one passes a test, by its place
-- whether a list has an element
abbrev pub is_filled : {A : Type 0} → List A → Bool
is_filled [] = false
is_filled (x ∷ xs) = true

later : (n m k : ℕ) → k ≡ m + 1 → nat_lt (1 + n) k ≡ nat_lt n m
later n m k e = grind arith

first : (m k : ℕ) → k ≡ m + 1 → nat_lt 0 k ≡ true
first m k e = grind arith

some_passes : {A : Type 0} (p : A → Bool) (xs : List A) → nat_lt (position_or_len p xs) (length xs) ≡ is_filled (filter p xs)
some_passes p [] = refl
some_passes p (x ∷ xs) = by (p x) refl (some_passes p xs)
  where
    by : (b : Bool) → p x ≡ b → nat_lt (position_or_len p xs) (length xs) ≡ is_filled (filter p xs) → nat_lt (position_or_len p (x ∷ xs)) (length (x ∷ xs)) ≡ is_filled (filter p (x ∷ xs))
    by true at rest =
        ap (λ b. nat_lt (cond (not b) (1 + position_or_len p xs) 0) (length (x ∷ xs))) at ∙ first (length xs) (length (x ∷ xs)) (omega arith) ∙ sym (ap (λ b. is_filled (cond b (x ∷ filter p xs) (filter p xs))) at)
    by false at rest =
        ap (λ b. nat_lt (cond (not b) (1 + position_or_len p xs) 0) (length (x ∷ xs))) at ∙ later (position_or_len p xs) (length xs) (length (x ∷ xs)) (omega arith) ∙ rest
        ∙ sym (ap (λ b. is_filled (cond b (x ∷ filter p xs) (filter p xs))) at)

filled_map : {A B : Type 0} (f : A → B) (xs : List A) → is_filled (map f xs) ≡ is_filled xs
filled_map f [] = refl
filled_map f (x ∷ xs) = refl

none_filled : {A : Type 0} (xs : List A) → is_filled xs ≡ false → xs ≡ []
none_filled [] is = refl
none_filled (x ∷ xs) is = absurd (cc (is))

pub same_line : (k l : Line) → Some k ≡ Some l → k ≡ l
same_line k l e = cc (e)

-- ---- a look at a node
found : Node → ℕ → Line → Bool
found n app line = nat_lt (position_or_len (is_waiting app line) n.arrivals) (length n.arrivals)

arrived : (n : Node) (app : ℕ) (line : Line) → found n app line ≡ is_filled (arrived_map n app line)
unfolding found
arrived n app line = some_passes (is_waiting app line) n.arrivals ∙ sym (filled_map told_of (filter (is_waiting app line) n.arrivals))

-- where it finds nothing, and where it finds something
pub looked_empty : (n : Node) (app : ℕ) (line : Line) → look_of (position (is_waiting app line) n.arrivals) ≡ Empty → arrived_map n app line ≡ []
unfolding found
looked_empty n app line is = none_filled (arrived_map n app line) (sym (arrived n app line) ∙ by (found n app line) refl)
  where
    by : (b : Bool) → found n app line ≡ b → found n app line ≡ false
    by true at = absurd (cc (is, at))
    by false at = at

pub looked_here : (n : Node) (app : ℕ) (line : Line) → look_of (position (is_waiting app line) n.arrivals) ≢ Empty → arrived_map n app line ≢ []
unfolding found
looked_here n app line other none = by (found n app line) refl
  where
    by : (b : Bool) → found n app line ≡ b → ⊥
    by true at = let e = sym at ∙ arrived n app line ∙ ap is_filled none in cc (e)
    by false at = other (ap (λ b. look_of (cond b (Some (position_or_len (is_waiting app line) n.arrivals)) None)) at)

-- ---- the state's queue
module _ (s : Network) (m : ℕ) (n : Node) (fits : FitsNode s m (held_map n) (arrived_map n)) (app : ℕ) (line : Line) where
  same : is_filled (arrived_map n app line) ≡ is_filled (queue s m app line)
  same = ap is_filled (fits.queues app line) ∙ filled_map (λ (e : Waiting). (e.number, e.info)) (queue s m app line)

  pub nothing_waits : arrived_map n app line ≡ [] → queue s m app line ≡ []
  nothing_waits none = none_filled (queue s m app line) (sym same ∙ ap is_filled none)

  pub something_waits : arrived_map n app line ≢ [] → queue s m app line ≢ []
  something_waits some none = some (none_filled (arrived_map n app line) (same ∙ ap is_filled none))
