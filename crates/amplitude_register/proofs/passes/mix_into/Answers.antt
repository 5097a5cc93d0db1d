use Rattle.std.proofs.Common.{◌-◌, arith, length, map}
use Rattle.state_model.specs.Gate.{matrix}
use Rattle.state_model.specs.declared.Gate.TheVariants.{H}
use Rattle.omega_ring.specs.Views.{omega_value}
use Rattle.state_model.specs.Amplitudes.{IsGateRow}
use Rattle.amplitude_register.proofs.Written.{written_none, written_more, written_whole, gate_past}
use Rattle.amplitude_register.proofs.passes.mix_into.Goals as goal

pub loop-row-init : goal.loop-row-init
loop-row-init c = written_none (IsGateRow (matrix H) c.args.place (map omega_value c.args.from.now)) (length c.args.from.now) c.args.list.now c.requires.same

pub loop-row-preserved : goal.loop-row-preserved
loop-row-preserved c = let h = c.loop-row.invariant in let r = h.rows in written_more (IsGateRow (matrix H) c.args.place (map omega_value c.args.from.now)) (length c.args.from.now) c.loop-row.list c.loop-row.row (c.loop-row.row - 1) c.mixed.result (omega arith) (omega (arith, r)) c.mixed.ensures c.loop-row.invariant

pub returns : goal.returns
returns c = written_whole (IsGateRow (matrix H) c.args.place (map omega_value c.args.from.now)) (length c.args.from.now) c.loop-row.list c.loop-row.row (gate_past (matrix H) c.args.place c.args.from.now c.requires.place) (omega arith) c.loop-row.invariant
