-- Entries whose random words are the next ones of a connection's dice.
use Rattle.std.specs.Prelude.{◌≡◌, ℕ, ◌+◌, List, [], ◌∷◌, IfSome, is_some, if◌then◌else◌, ⊤}
use Rattle.network_model.specs.declared.Entry.{Entry}

-- each entry that drew a word has the next one, from so many on
abbrev pub AreWordedFrom : (ℕ → ℕ) → ℕ → List Entry → Type 0
AreWordedFrom words taken [] = ⊤
AreWordedFrom words taken (e ∷ entries) =
    IfSome e.word (λ w. w ≡ words taken) × AreWordedFrom words (taken + (if is_some e.word then 1 else 0)) entries

-- the k-th entry that drew a word has the k-th word
abbrev pub AreWorded : (ℕ → ℕ) → List Entry → Type 0
AreWorded words entries = AreWordedFrom words 0 entries
