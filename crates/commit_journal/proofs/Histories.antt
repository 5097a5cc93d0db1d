-- Histories: prefixes of legal ones, and cells that no entry behind a prefix touches.
use Rattle.std.proofs.Common.{◌≡◌, ℕ, List, [], ◌∷◌, ◌++◌, false, length, take, Some, slice_get, refl, ap, sym, ◌∙◌, subst, arith, append_assoc, length-append}
use Rattle.std.proofs.lemmas.List.{append-nil}
use mathlib.Core.List.{IsPrefix}
use Rattle.network_model.specs.Network.{Network, Shape, opening}
use Rattle.network_model.specs.History.{IsLegal, IsLegalFrom, advance}
use Rattle.network_model.specs.declared.Entry.{Entry}
use Rattle.commit_journal.specs.Touching.{touches}
use Rattle.commit_journal.specs.Keeping.{Untouched}

legal_prefix : (shape : Shape) (s : Network) (h k : List Entry) → IsLegalFrom shape s (h ++ k) → IsLegalFrom shape s h
legal_prefix shape s [] k l = tt
legal_prefix shape s (e ∷ h) k l = (l.0, legal_prefix shape (advance shape s e) h k l.1)

-- the beginning of a legal history is legal
pub legal-prefix : (shape : Shape) (h k : List Entry) → IsLegal shape (h ++ k) → IsLegal shape h
legal-prefix shape h k l = legal_prefix shape opening h k l

pub get_first : {E : Type 0} (xs ys : List E) (e : E) → slice_get (xs ++ e ∷ ys) (length xs) ≡ Some e
get_first [] ys e = refl
get_first (x ∷ xs) ys e = get_first xs ys e

pub take_first : {E : Type 0} (xs ys : List E) → take (length xs) (xs ++ ys) ≡ xs
take_first [] ys = refl
take_first (x ∷ xs) ys = ap (λ l. x ∷ l) (take_first xs ys)

module _ (shape : Shape) (n : ℕ) (fits : List Entry → Type 0) (law : (h : List Entry) (e : Entry) → IsLegal shape (h ++ e ∷ []) → fits h → touches shape h e n ≡ false → fits (h ++ e ∷ [])) where
  fits_more : (rest before : List Entry) → IsLegal shape (before ++ rest) → Untouched shape n (before ++ rest) (length before) → fits before → fits (before ++ rest)
  fits_more [] before legal none fit = subst fits (sym (append-nil before)) fit
  fits_more (e ∷ rest) before legal none fit =
      let here = none (length before) e (omega arith) (get_first before rest e) in
      let missed : touches shape before e n ≡ false = ap (λ (l : List Entry). touches shape l e n) (sym (take_first before (e ∷ rest))) ∙ here in
      let all : (before ++ e ∷ []) ++ rest ≡ before ++ e ∷ rest = append_assoc before (e ∷ []) rest in
      let legal' : IsLegal shape ((before ++ e ∷ []) ++ rest) = subst (λ (l : List Entry). IsLegal shape l) (sym all) legal in
      let next : fits (before ++ e ∷ []) = law before e (legal-prefix shape (before ++ e ∷ []) rest legal') fit missed in
      let none' : Untouched shape n ((before ++ e ∷ []) ++ rest) (length (before ++ e ∷ [])) =
      (λ i u le at. ap (λ (l : List Entry). touches shape (take i l) u n) all ∙ none i u (omega (arith, length-append before (e ∷ []))) (subst (λ (l : List Entry). slice_get l i ≡ Some u) all at)) in
      subst fits all (fits_more rest (before ++ e ∷ []) legal' none' next)

  -- a cell that fits the beginning of a legal history, behind which no entry touches it, fits the whole
  pub fits_whole : (seen h : List Entry) → IsLegal shape h → IsPrefix seen h → Untouched shape n h (length seen) → fits seen → fits h
  fits_whole seen h legal prefix none fit =
      subst fits prefix.1 (fits_more prefix.0 seen (subst (λ (l : List Entry). IsLegal shape l) (sym prefix.1) legal) (subst (λ (l : List Entry). Untouched shape n l (length seen)) (sym prefix.1) none) fit)
