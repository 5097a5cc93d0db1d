-- The last items of a list, behind its front.
use Rattle.std.proofs.Common.{◌≡◌, ◌-◌, List, [], ◌∷◌, ◌++◌, length, take, sym, ap, ◌∙◌, arith, length-append, append_assoc}
use Rattle.std.proofs.lemmas.List.{take_at}

-- the first of them goes to the front
module _ {A : Type 0} (all old rest : List A) (x : A) (is_rest : take (length all - length old) all ++ old ≡ all) (first : old ≡ x ∷ rest) where
  abbrev pub front : List A
  front = take (length all - length old) all

  whole : (front ++ x ∷ []) ++ rest ≡ all
  whole = append_assoc front (x ∷ []) rest ∙ ap (λ (l : List A). front ++ l) (sym first) ∙ is_rest

  size : length (front ++ x ∷ []) ≡ length all - length rest
  size = omega (arith, length-append (front ++ x ∷ []) rest, ap length whole)

  pub front_more : take (length all - length rest) all ≡ front ++ x ∷ []
  front_more = ap (λ (l : List A). take (length all - length rest) l) (sym whole) ∙ take_at (front ++ x ∷ []) rest (length all - length rest) size

  pub rest_on : take (length all - length rest) all ++ rest ≡ all
  rest_on = ap (λ (l : List A). l ++ rest) front_more ∙ whole
