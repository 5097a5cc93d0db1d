use Rattle.std.proofs.Common.{◌-◌, arith, length, map, refl}
use Rattle.state_model.specs.declared.Two.TheVariants.{Cnot}
use Rattle.state_model.specs.Amplitudes.{IsTwoGateRow}
use Rattle.omega_ring.specs.Views.{omega_value}
use Rattle.amplitude_register.proofs.Written.{written_none, written_more, written_whole}
use Rattle.amplitude_register.proofs.TwoGates.{exchanged_past, source_entry}
use Rattle.amplitude_register.proofs.two_passes.exchange_rows_into.Goals as goal

pub loop-row-init : goal.loop-row-init
loop-row-init c = written_none (IsTwoGateRow Cnot c.args.control c.args.target (map omega_value c.args.from.now)) (length c.args.from.now) c.args.list.now c.requires.same

pub loop-row-preserved : goal.loop-row-preserved
loop-row-preserved c = let h = c.loop-row.invariant in let r = h.rows in written_more (IsTwoGateRow Cnot c.args.control c.args.target (map omega_value c.args.from.now)) (length c.args.from.now) c.loop-row.list c.loop-row.row (c.loop-row.row - 1) _ (omega arith) (omega (arith, r)) (source_entry c.args.control c.args.target c.args.from.now (c.loop-row.row - 1) c.controlled_row.result _ c.controlled_row.ensures.value refl) c.loop-row.invariant

pub returns : goal.returns
returns c = written_whole (IsTwoGateRow Cnot c.args.control c.args.target (map omega_value c.args.from.now)) (length c.args.from.now) c.loop-row.list c.loop-row.row (exchanged_past c.args.control c.args.target c.args.from.now c.requires.place) (omega arith) c.loop-row.invariant
