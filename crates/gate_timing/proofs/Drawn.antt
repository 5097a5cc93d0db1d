-- A drawn outcome has a row.
use Rattle.std.proofs.Common.{◌≡◌, ℕ, ◌<◌, ◌^◌, Bool, subst, sym, ap, ◌∙◌}
use Rattle.state_model.specs.Coefficient.{Weight, scaled, is_less}
use Rattle.state_model.specs.Measurement.{one_weight, whole_weight, draw}
use Rattle.state_model.specs.Amplitudes.{Amplitudes, vector_of, qubit_at, HasRows}
use Rattle.state_model.proofs.Kept.{kept_some_row}
use Rattle.state_model.proofs.RegisterLists.{entry_some_row, reduced_nonzero, vector-over}
use Rattle.amplitude_register.specs.States.{IsKept}
use Rattle.register_split.specs.Removal.{HasRowWith}

draw_is : (a : Amplitudes) (place word : ℕ) (one whole : Weight) → one ≡ one_weight a.qubits (vector_of a) (qubit_at a place) → whole ≡ whole_weight a.qubits (vector_of a) → draw a.qubits (vector_of a) (qubit_at a place) word ≡ is_less (scaled word whole) (scaled (2 ^ 64) one)
unfolding draw
draw_is a place word one whole e f = ap (λ (t : Weight). is_less (scaled word t) (scaled (2 ^ 64) (one_weight a.qubits (vector_of a) (qubit_at a place)))) (sym f) ∙ ap (λ (t : Weight). is_less (scaled word whole) (scaled (2 ^ 64) t)) (sym e)

pub drawn_row : (a : Amplitudes) (place word : ℕ) (bit : Bool) (one whole : Weight) → HasRows a → IsKept a → word < 2 ^ 64 → one ≡ one_weight a.qubits (vector_of a) (qubit_at a place) → whole ≡ whole_weight a.qubits (vector_of a)
    → bit ≡ is_less (scaled word whole) (scaled (2 ^ 64) one) → HasRowWith place bit a
drawn_row a place word bit one whole rows kept small e f is =
    let n = kept.normal in
    subst (λ (b : Bool). HasRowWith place b a) (draw_is a place word one whole e f ∙ sym is)
    (kept_some_row a.qubits (vector_of a) (qubit_at a place) word small (vector-over a.qubits a.list) (entry_some_row a.qubits a.list rows.distinct rows.rows (reduced_nonzero a.list n.reduced)))
