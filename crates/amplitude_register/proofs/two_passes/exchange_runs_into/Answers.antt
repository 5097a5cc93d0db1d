use Rattle.std.proofs.Common.{◌≡◌, ◌+◌, ◌-◌, ◌*◌, ◌/◌, ◌≤◌, ℕ, length, map, slice_index_or, refl, sym, subst, arith}
use Rattle.state_model.specs.declared.Two.TheVariants.{Cnot}
use Rattle.state_model.specs.Amplitudes.{IsTwoGateRow}
use Rattle.omega_ring.specs.Views.{omega_value}
use Rattle.omega_ring.proofs.Entries.{zero_omega}
use Rattle.amplitude_register.proofs.Runs.{runs_whole, run_inside, run_next, run_first, run_source, run_source_inside, run_written}
use Rattle.amplitude_register.proofs.TwoGates.{source_entry, exchanged_past}
use Rattle.amplitude_register.proofs.Written.{IsWrittenFrom, written_none, written_whole}
use Rattle.amplitude_register.proofs.two_passes.exchange_runs_into.Goals as goal

pub loop-k-init : goal.loop-k-init
loop-k-init c =
    let whole = subst (λ (n : ℕ). length c.args.from.now / n * n ≡ length c.args.from.now) (sym c.rows_of-run.ensures) (runs_whole c.args.place c.args.target (length c.args.from.now) c.requires.place c.requires.under_target) in
    subst (IsWrittenFrom (IsTwoGateRow Cnot c.args.control c.args.target (map omega_value c.args.from.now)) (length c.args.from.now) c.args.list.now) (sym whole) (written_none (IsTwoGateRow Cnot c.args.control c.args.target (map omega_value c.args.from.now)) (length c.args.from.now) c.args.list.now c.requires.same)

pub copy_run-requires-clause-from : goal.copy_run-requires-clause-from
copy_run-requires-clause-from c = run_source_inside c.args.control c.args.target c.args.place c.rows_of-run.result (c.loop-k.k - 1) c.controlled_row-start.result (length c.args.from.now) c.rows_of-run.ensures c.controlled_row-start.ensures.value c.requires.place c.requires.under_control c.requires.under_target (run_inside c.rows_of-run.result (length c.args.from.now) (c.loop-k.k - 1) c.loop-k.k (let h = c.loop-k-test.true in omega (arith, h)) (let a = c.loop-k.auto in a.k))

pub loop-k-preserved : goal.loop-k-preserved
loop-k-preserved c =
    let fits : (c.loop-k.k - 1) * c.rows_of-run.result + c.rows_of-run.result ≤ length c.loop-k.list = let h = c.loop-k.invariant in let r = h.rows in let i = run_inside c.rows_of-run.result (length c.args.from.now) (c.loop-k.k - 1) c.loop-k.k (let h = c.loop-k-test.true in omega (arith, h)) (let a = c.loop-k.auto in a.k) in omega (arith, r, i) in
    let lies = run_source_inside c.args.control c.args.target c.args.place c.rows_of-run.result (c.loop-k.k - 1) c.controlled_row-start.result (length c.args.from.now) c.rows_of-run.ensures c.controlled_row-start.ensures.value c.requires.place c.requires.under_control c.requires.under_target (run_inside c.rows_of-run.result (length c.args.from.now) (c.loop-k.k - 1) c.loop-k.k (let h = c.loop-k-test.true in omega (arith, h)) (let a = c.loop-k.auto in a.k)) in
    let new = c.copy_run.auto in
    run_written c.loop-k.list c.args.from.now ((c.loop-k.k - 1) * c.rows_of-run.result) c.controlled_row-start.result c.rows_of-run.result fits lies (IsTwoGateRow Cnot c.args.control c.args.target (map omega_value c.args.from.now)) (length c.args.from.now) c.copy_run.new.list c.copy_run.ensures new.list
    (λ x h. source_entry c.args.control c.args.target c.args.from.now ((c.loop-k.k - 1) * c.rows_of-run.result + x) (c.controlled_row-start.result + x) (slice_index_or c.args.from.now (c.controlled_row-start.result + x) zero_omega) (run_source c.args.control c.args.target c.args.place c.rows_of-run.result (c.loop-k.k - 1) c.controlled_row-start.result x c.rows_of-run.ensures c.controlled_row-start.ensures.value c.requires.under_control c.requires.under_target h) refl)
    (subst (IsWrittenFrom (IsTwoGateRow Cnot c.args.control c.args.target (map omega_value c.args.from.now)) (length c.args.from.now) c.loop-k.list) (run_next c.rows_of-run.result c.loop-k.k c.loop-k-test.true) c.loop-k.invariant)

pub returns : goal.returns
returns c = written_whole (IsTwoGateRow Cnot c.args.control c.args.target (map omega_value c.args.from.now)) (length c.args.from.now) c.loop-k.list (c.loop-k.k * c.rows_of-run.result) (exchanged_past c.args.control c.args.target c.args.from.now c.requires.place) (run_first c.rows_of-run.result c.loop-k.k c.loop-k-test.false) c.loop-k.invariant
