use Rattle.std.proofs.Common.{◌∙◌, length, ap, arith}
use Rattle.state_model.specs.Coefficient.{weight_sum}
use Rattle.state_model.specs.CoefficientList.{at}
use Rattle.state_model.specs.Amplitudes.{Amplitudes}
use Rattle.omega_ring.specs.Views.{omega_value, weight_value}
use Rattle.amplitude_register.specs.States.{next_value}
use Rattle.amplitude_register.proofs.Fields.{power_le}
use Rattle.amplitude_register.proofs.Weighed.{coordinates_small, weight_small}
use Rattle.register_split.proofs.Drafts.{copy_none, copy_more, copy_value, copy_whole, read_inside, read_range, read_small}
use Rattle.register_split.proofs.KeptWeights.{kept_none, kept_more, kept_small, kept_total}
use Rattle.register_split.proofs.removal.copy_rows.Goals as goal

pub loop-row-init : goal.loop-row-init
loop-row-init c = record { weight = kept_none c.args.place c.args.bit c.args.reg.now.value.list; copying = copy_none c.args.place c.args.bit c.args.reg.now c.facts.ensures.rows c.requires.place c.requires.open }

pub with_inserted-requires-clause-row : goal.with_inserted-requires-clause-row
with_inserted-requires-clause-row c =
    let few = c.facts.ensures.few in let limit = c.facts.ensures.limit in
    let p = power_le (length c.args.reg.now.value.qubits) 12 (omega (arith, few, limit)) in
    let e = c.row_count-row-end.ensures.qubits in
    omega (arith, p, e)

pub coefficient-z-requires : goal.coefficient-z-requires
coefficient-z-requires c =
    let e = c.row_count-row-end.ensures.qubits in
    read_inside c.args.place c.args.bit c.loop-row.row c.with_inserted.result c.args.reg.now c.loop-row.reg c.facts.ensures.rows c.requires.place c.loop-row.invariant.copying (omega (arith, e)) c.with_inserted.ensures

pub put-requires-clause-range : goal.put-requires-clause-range
put-requires-clause-range c = read_range c.args.place c.args.bit c.loop-row.row c.with_inserted.result c.args.reg.now c.loop-row.reg (omega_value c.coefficient-z.result) c.facts.ensures.kept c.loop-row.invariant.copying c.coefficient-z.ensures

pub weight-requires : goal.weight-requires
weight-requires c = coordinates_small (omega_value c.coefficient-z.result) (read_small c.args.place c.args.bit c.loop-row.row c.with_inserted.result c.args.reg.now c.loop-row.reg (omega_value c.coefficient-z.result) c.facts.ensures.kept c.loop-row.invariant.copying c.coefficient-z.ensures)

pub plus-weight-requires-clause-left : goal.plus-weight-requires-clause-left
plus-weight-requires-clause-left c =
    let few = c.facts.ensures.few in let limit = c.facts.ensures.limit in
    let p = power_le (length c.args.reg.now.value.qubits) 12 (omega (arith, few, limit)) in
    let e = c.row_count-row-end.ensures.qubits in
    let k = c.facts.ensures.kept in
    kept_small c.args.place c.args.bit c.args.reg.now.value.list c.loop-row.row (weight_value c.loop-row.weight) (omega (arith, p, e)) k.small c.loop-row.invariant.weight

pub plus-weight-requires-clause-right : goal.plus-weight-requires-clause-right
plus-weight-requires-clause-right c =
    let s = weight_small (omega_value c.coefficient-z.result) (weight_value c.weight.result) (read_small c.args.place c.args.bit c.loop-row.row c.with_inserted.result c.args.reg.now c.loop-row.reg (omega_value c.coefficient-z.result) c.facts.ensures.kept c.loop-row.invariant.copying c.coefficient-z.ensures) c.weight.ensures in
    record { x = omega (arith, s.x); y = omega (arith, s.y) }

pub loop-row-preserved : goal.loop-row-preserved
loop-row-preserved c =
    let i = c.loop-row.invariant in let h = i.copying in let r = h.rows in let e = c.row_count-row-end.ensures.rows in
    record {
      copying = copy_more c.args.place c.args.bit c.loop-row.row c.args.reg.now c.loop-row.reg c.put.new.self (omega_value c.coefficient-z.result) h (omega (arith, r, e)) (c.coefficient-z.ensures ∙ ap (at c.loop-row.reg.value.list) c.with_inserted.ensures) c.put.ensures;
      weight = kept_more c.args.place c.args.bit c.args.reg.now.value.list c.loop-row.row (omega_value c.coefficient-z.result) (weight_value c.loop-row.weight) (weight_value c.plus-weight.result) i.weight
          (c.coefficient-z.ensures ∙ ap (λ (t : Amplitudes). at t.list c.with_inserted.result) (copy_value c.args.place c.args.bit c.loop-row.row c.args.reg.now c.loop-row.reg h) ∙ ap (at c.args.reg.now.value.list) c.with_inserted.ensures)
          (c.plus-weight.ensures ∙ ap (weight_sum (weight_value c.loop-row.weight)) c.weight.ensures);
    }

pub returns-clause-drafted : goal.returns-clause-drafted
returns-clause-drafted c =
    let i = c.loop-row.invariant in let h = i.copying in let r = h.rows in let e = c.row_count-row-end.ensures.rows in
    copy_whole c.args.place c.args.bit c.loop-row.row c.args.reg.now c.loop-row.reg h (omega (arith, r, e))

pub returns-clause-weight : goal.returns-clause-weight
returns-clause-weight c =
    let i = c.loop-row.invariant in let h = i.copying in let r = h.rows in let e = c.row_count-row-end.ensures.rows in
    let d = copy_whole c.args.place c.args.bit c.loop-row.row c.args.reg.now c.loop-row.reg h (omega (arith, r, e)) in
    kept_total c.args.place c.args.bit c.args.reg.now.value.list (next_value c.loop-row.reg.next).list c.loop-row.row (weight_value c.loop-row.weight) d.list (omega (arith, r, e)) i.weight
