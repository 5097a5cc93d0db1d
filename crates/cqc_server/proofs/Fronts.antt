-- A front of a history that has as many entries of a seat as the whole has all of them.
-- Main results: `seat_whole`, `own_whole`.
use Rattle.std.proofs.Common.{◌≡◌, ℕ, ◌≤◌, ◌==◌, List, [], ◌∷◌, ◌++◌, length, Bool, true, false, ◌&&◌, cond, refl, sym, ap, ◌∙◌, arith, length-append}
use Rattle.std.proofs.lemmas.List.{append-nil}
use Rattle.std.proofs.lemmas.List.Elements.{filter-append}
use mathlib.Core.List.{IsPrefix}
use Rattle.network_model.specs.History.{seat_entries, own_entries}
use Rattle.network_model.specs.declared.Entry.{Entry}
use Rattle.commit_journal.specs.Keeping.{own_count}

abbrev is_of : ℕ → Entry → Bool
is_of seat e = e.call.seat == seat

none_of : (es : List Entry) → length es ≡ 0 → es ≡ []
none_of [] none = refl
none_of (e ∷ es) none = absurd (omega (arith, none))

seat_append : (seat : ℕ) (h k : List Entry) → seat_entries seat (h ++ k) ≡ seat_entries seat h ++ seat_entries seat k
unfolding seat_entries
seat_append seat h k = filter-append (is_of seat) h k

own_append : (seat serial : ℕ) (h k : List Entry) → own_entries seat serial (h ++ k) ≡ own_entries seat serial h ++ own_entries seat serial k
unfolding own_entries
own_append seat serial h k = filter-append (λ e. is_of seat e && (e.call.serial == serial)) h k

-- a connection has no entry where its seat has none
no_own : (seat serial : ℕ) (es : List Entry) → seat_entries seat es ≡ [] → own_entries seat serial es ≡ []
unfolding seat_entries own_entries
no_own seat serial [] none = refl
no_own seat serial (e ∷ es) none = by (is_of seat e) (no_own seat serial es) none
  where
    by : (b : Bool) → (seat_entries seat es ≡ [] → own_entries seat serial es ≡ []) → cond b (e ∷ seat_entries seat es) (seat_entries seat es) ≡ []
        → cond (b && (e.call.serial == serial)) (e ∷ own_entries seat serial es) (own_entries seat serial es) ≡ []
    by true rest none = cc
    by false rest none = rest none

-- no entry behind the front is of the seat
none_behind : (seat : ℕ) (front rest : List Entry) → own_count seat front ≡ own_count seat (front ++ rest) → seat_entries seat rest ≡ []
none_behind seat front rest same =
    none_of (seat_entries seat rest)
    (omega (arith, same, ap length (seat_append seat front rest), length-append (seat_entries seat front) (seat_entries seat rest)))

pub seat_whole : (seat : ℕ) (front h : List Entry) → IsPrefix front h → own_count seat front ≡ own_count seat h → seat_entries seat h ≡ seat_entries seat front
seat_whole seat front h (rest, is) same =
    ap (seat_entries seat) (sym is)
    ∙ seat_append seat front rest
    ∙ ap (λ (es : List Entry). seat_entries seat front ++ es) (none_behind seat front rest (same ∙ ap (own_count seat) (sym is)))
    ∙ append-nil (seat_entries seat front)

pub own_whole : (seat serial : ℕ) (front h : List Entry) → IsPrefix front h → own_count seat front ≡ own_count seat h → own_entries seat serial h ≡ own_entries seat serial front
own_whole seat serial front h (rest, is) same =
    ap (own_entries seat serial) (sym is)
    ∙ own_append seat serial front rest
    ∙ ap (λ (es : List Entry). own_entries seat serial front ++ es)
    (no_own seat serial rest (none_behind seat front rest (same ∙ ap (own_count seat) (sym is))))
    ∙ append-nil (own_entries seat serial front)

pub front_short : (front h : List Entry) → IsPrefix front h → length front ≤ length h
front_short front h (rest, is) = omega (arith, ap length is, length-append front rest)
