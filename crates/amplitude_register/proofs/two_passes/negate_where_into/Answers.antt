use Rattle.std.proofs.Common.{◌-◌, arith, length, map}
use Rattle.state_model.specs.declared.Two.TheVariants.{Cphase}
use Rattle.state_model.specs.Amplitudes.{IsTwoGateRow}
use Rattle.omega_ring.specs.Views.{omega_value}
use Rattle.amplitude_register.proofs.Written.{written_none, written_more, written_whole}
use Rattle.amplitude_register.proofs.TwoGates.{phased_past}
use Rattle.amplitude_register.proofs.two_passes.negate_where_into.Goals as goal

pub loop-row-init : goal.loop-row-init
loop-row-init c = written_none (IsTwoGateRow Cphase c.args.one c.args.two (map omega_value c.args.from.now)) (length c.args.from.now) c.args.list.now c.requires.same

pub loop-row-preserved : goal.loop-row-preserved
loop-row-preserved c = let h = c.loop-row.invariant in let r = h.rows in written_more (IsTwoGateRow Cphase c.args.one c.args.two (map omega_value c.args.from.now)) (length c.args.from.now) c.loop-row.list c.loop-row.row (c.loop-row.row - 1) c.phased.result (omega arith) (omega (arith, r)) c.phased.ensures c.loop-row.invariant

pub returns : goal.returns
returns c = written_whole (IsTwoGateRow Cphase c.args.one c.args.two (map omega_value c.args.from.now)) (length c.args.from.now) c.loop-row.list c.loop-row.row (phased_past c.args.one c.args.two c.args.from.now) (omega arith) c.loop-row.invariant
