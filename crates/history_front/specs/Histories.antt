-- The rule over the word and all views, and what each kind of step tells.
use Rattle.std.specs.Prelude.{ℕ, ◌≡◌, ◌+◌, ◌<◌, ◌≤◌, List, [], ◌∷◌, ◌++◌, true, false, length, max, nat_le, if◌then◌else◌}
use mathlib.Core.Option.{Option, some, none}
use mathlib.Core.List.{IsPrefix}
use lib.ListN.{get_elem?}
use Rattle.atomic_table.specs.Table.{State, Me, Step}
use Rattle.history_front.specs.declared.track.Track.{Track}

module _ {E : Type 0} where
  -- A view fits a history: the one with the pen has all of it, and each other a prefix. The history has reached what it knows, and both lists of its last join are prefixes of what it has seen
  pub record Fits (holder : ℕ) (log : List E) (id : ℕ) (v : Track E) : Type 0 where
    pub pen : v.pen ≡ true → (id ≡ holder) × (v.seen ≡ log) × (v.known ≡ length log)
    pub seen : IsPrefix v.seen log
    pub known : (length v.seen ≤ v.known) × (v.known ≤ length log)
    pub olds : IsPrefix v.one v.seen × IsPrefix v.two v.seen

  -- there is one history, whose length is the word. Exactly one view has the pen, and each view fits it
  pub record Kept (s : State E (Track E)) : Type 0 where
    pub holder : ℕ
    pub log : List E
    pub word : s.words ≡ length log ∷ []
    pub small : length log < 4294967296
    pub pen : (v : Track E) × (get_elem? s.views holder ≡ some v) × (v.pen ≡ true)
    pub each : (id : ℕ) (v : Track E) → get_elem? s.views id ≡ some v → Fits holder log id v

  -- the view with the pen, of the empty history
  abbrev pub opening_track : Track E
  opening_track = record { pen = true; seen = []; known = 0; one = []; two = [] }

  -- the view of a seat that was joined away
  abbrev pub spent : Track E
  spent = record { pen = false; seen = []; known = 0; one = []; two = [] }

  -- a view that stays, and one without the pen
  abbrev pub same : Track E → Track E
  same v = v

  abbrev pub without_pen : Track E → Track E
  without_pen v = record v { pen = false }

  -- the longer of two lists, the first where they are as long
  abbrev pub longer : List E → List E → List E
  longer xs ys = if nat_le (length ys) (length xs) then xs else ys

  -- the pen keeps its own list, and another view takes the longer one
  abbrev pub joined : Track E → Track E → Track E
  joined v w = record { pen = v.pen; seen = if v.pen then v.seen else longer v.seen w.seen; known = max v.known w.known; one = v.seen; two = w.seen }

  -- what a step says, as a list
  abbrev pub told : Option E → List E
  told none = []
  told (some x) = x ∷ []

  -- a view that has seen more, by one entry
  abbrev pub appended : Track E → List E → Track E
  appended v xs = record v { seen = v.seen ++ xs; known = v.known + 1 }

  -- the entry was added to all that the pen had seen
  abbrev pub Appends : Step E → Me E (Track E) → ℕ → Me E (Track E) → Type 0
  Appends s v n w = w ≡ (appended v.0 (told s.said), v.1)

  -- the history's length was found, and what the last join brought together begins what was seen
  pub record Loaded (v : Track E) (n : ℕ) : Type 0 where
    pub reached : (v.known ≤ n) × (length v.seen ≤ n) × (n < 4294967296)
    pub pen : v.pen ≡ true → n ≡ length v.seen
    pub olds : IsPrefix v.one v.seen × IsPrefix v.two v.seen

  -- the length was loaded
  abbrev pub Loads : Step E → Me E (Track E) → ℕ → Me E (Track E) → Type 0
  Loads s v n w = (w ≡ (record v.0 { known = n }, v.1)) × Loaded v.0 n

  -- a view that another was joined into, behind a load: both lists begin what it has seen
  pub record HasMet (old other new : Track E) : Type 0 where
    pub pen : new.pen ≡ old.pen
    pub seen : new.seen ≡ (joined old other).seen
    pub known : (old.known ≤ new.known) × (other.known ≤ new.known)
    pub whole : new.pen ≡ true → new.known ≡ length new.seen
    pub olds : IsPrefix old.seen new.seen × IsPrefix other.seen new.seen
