-- The outcomes of a seat, read entry by entry.
use Rattle.std.proofs.Common.{◌≡◌, ℕ, ◌==◌, ◌&&◌, Bool, cond, List, [], ◌∷◌, Option, None, refl, inl, inr}
use Rattle.std.specs.List.{filter_map}
use Rattle.std.proofs.lemmas.Bool.{cases_Bool}
use Rattle.network_model.specs.declared.Entry.{Entry}
use Rattle.network_model.specs.History.{own_entries}
use Rattle.cqc_client.specs.Tally.{told, outcomes}

-- the outcome that an entry tells of the first connection of a seat, if it tells one
abbrev pub told_at : ℕ → Entry → Option Bool
told_at seat e = cond ((e.call.seat == seat) && (e.call.serial == 0)) (told e.reply) None

pub told_at-outcomes : (seat : ℕ) (h : List Entry) → filter_map (told_at seat) h ≡ outcomes seat h
unfolding own_entries
told_at-outcomes seat [] = refl
told_at-outcomes seat (e ∷ h) =
    elim (cases_Bool ((e.call.seat == seat) && (e.call.serial == 0))) [
      | inl own ↦ rw (own, told_at-outcomes seat h) refl
      | inr other ↦ rw (other, told_at-outcomes seat h) refl
    ]
