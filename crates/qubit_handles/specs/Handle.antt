-- The handles of a node as a list.
use Rattle.std.specs.Prelude.{ℕ, ◌≤◌, ◌==◌, Bool, not, ◌&&◌, List, filter, find, map, count_by, Option, option_map}
use Rattle.qubit_handles.specs.declared.handles.Handle.{Handle}

-- whether a handle is this application's of this id
abbrev pub is_named : ℕ → ℕ → Handle → Bool
is_named app id h = (h.app == app) && (h.id == id)

-- the number of the qubit that an application holds under an id
abbrev pub number_of : List Handle → ℕ → ℕ → Option ℕ
number_of handles app id = option_map (λ h. h.number) (find (is_named app id) handles)

-- the ids that an application holds
abbrev pub ids_of : List Handle → ℕ → List ℕ
ids_of handles app = map (λ h. h.id) (filter (λ h. h.app == app) handles)

-- the handles without this application's of this id
abbrev pub without_handle : List Handle → ℕ → ℕ → List Handle
without_handle handles app id = filter (λ h. not (is_named app id h)) handles

-- no application holds two qubits under one id
abbrev pub AreDistinct : List Handle → Type 0
AreDistinct handles = (app id : ℕ) → count_by (is_named app id) handles ≤ 1
