-- The outcome of a random word, by the weights of a qubit's register: `outcome_drawn`; and what is known then of a measured
-- qubit: `measured_by`, and `has_measured` where it is the own qubit of a ready call.
use Rattle.std.proofs.Common.{◌≡◌, ℕ, ◌^◌, ◌<◌, ◌==◌, Bool, false, length, Some, refl, sym, ap, subst, ◌∙◌}
use Rattle.state_model.specs.Coefficient.{Weight, scaled, is_less}
use Rattle.state_model.specs.Measurement.{draw, one_weight, whole_weight}
use Rattle.state_model.specs.Amplitudes.{Amplitudes, vector_of, qubit_at}
use Rattle.omega_ring.specs.Views.{weight_value}
use Rattle.register_split.specs.declared.sums.Split.{Split}
use Rattle.network_model.specs.Network.{Shape}
use Rattle.network_model.specs.Kinds.{kind_of}
use Rattle.network_model.specs.declared.After.TheVariants.{Left, Cleared}
use Rattle.network_model.specs.declared.Call.{Call}
use Rattle.network_model.specs.declared.Kind.TheVariants.{Measure}
use Rattle.qubit_handles.specs.Handle.{number_of}
use Rattle.virtual_node.specs.Node.{Node}
use Rattle.core_cells.specs.Cells.{Cells}
use Rattle.core_cells.specs.declared.cells.SlotCell.{SlotCell}
use Rattle.factored_core.specs.Measurements.{left_value, IsLeftAs, IsMeasured, HasMeasured}
use Rattle.factored_core.specs.Ready.{IsReady}
use Rattle.factored_core.specs.Slots.{IsSpot, IsSplit}
use Rattle.factored_core.specs.declared.measurements.Measured.{Measured}
use Rattle.factored_core.specs.declared.slots.Spot.{Spot}

pub outcome_drawn : (a : Amplitudes) (place q word : ℕ) (split : Split) (b : Bool) → IsSplit place a split → qubit_at a place ≡ q
    → b ≡ is_less (scaled word (weight_value split.whole)) (scaled (2 ^ 64) (weight_value split.one)) → b ≡ draw a.qubits (vector_of a) q word
unfolding draw
outcome_drawn a place q word split b is at e =
    e ∙ ap (λ (w : Weight). is_less (scaled word w) (scaled (2 ^ 64) (weight_value split.one))) is.whole
    ∙ ap (λ (w : Weight). is_less (scaled word (whole_weight a.qubits (vector_of a))) (scaled (2 ^ 64) w)) (is.one ∙ ap (one_weight a.qubits (vector_of a)) at)

pub measured_by : (cs one two : Cells) (q : ℕ) (spot : Spot) (at : IsSpot cs q spot) (word n : ℕ) (split : Split) (b told : Bool) → one ≡ cs → two ≡ one → word < 2 ^ 64
    → ((w : SlotCell) → one.slot spot.slot ≡ Some w → n ≡ length w.register.value.qubits)
    → ((w : SlotCell) → two.slot spot.slot ≡ Some w → IsSplit spot.place w.register.value split)
    → b ≡ is_less (scaled word (weight_value split.whole)) (scaled (2 ^ 64) (weight_value split.one))
    → IsMeasured cs (record { number = q; spot = spot; alone = (n == 1); word = word; outcome = b; told = told })
measured_by cs one two q spot at word n split b told e f small count weights is = record {
  spot = at;
  small = small;
  alone = ap (λ k. k == 1) (count at.cell (ap (λ (d : Cells). d.slot spot.slot) e ∙ at.there));
  drawn = outcome_drawn (at.cell).register.value spot.place q word split b (weights at.cell (ap (λ (d : Cells). d.slot spot.slot) (f ∙ e) ∙ at.there)) at.number is;
}

pub has_measured : (shape : Shape) (c : Call) (cs mid : Cells) (own : Node) (q : ℕ) (m : Measured) → mid ≡ cs → IsReady shape c cs own
    → number_of own.handles c.app c.command.qubit ≡ Some q → m.number ≡ q → IsMeasured cs m → HasMeasured shape c mid own m
has_measured shape c cs mid own q m e ready held is measured =
    subst (λ (d : Cells). HasMeasured shape c d own m) (sym e) (record { ready = ready; held = held ∙ ap Some (sym is); measured = measured })

-- what leaves a measured qubit in its outcome, or clears it
pub leaves_outcome : (c : Call) (m : Measured) → kind_of c.command.instr ≡ Measure Left m.told → IsLeftAs c m m.outcome
unfolding left_value
leaves_outcome c m is = record { after = Left; kind = is; left = refl }

pub leaves_zero : (c : Call) (m : Measured) → kind_of c.command.instr ≡ Measure Cleared m.told → IsLeftAs c m false
unfolding left_value
leaves_zero c m is = record { after = Cleared; kind = is; left = refl }
