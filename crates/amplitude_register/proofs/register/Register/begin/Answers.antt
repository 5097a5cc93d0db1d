use Rattle.std.proofs.Common.{◌∙◌, length, ap, sym, subst, arith}
use Rattle.amplitude_register.specs.States.{RegisterState}
use Rattle.amplitude_register.specs.Held.{amplitudes_of, next_of}
use Rattle.amplitude_register.proofs.Fields.{begin_is, power_le}
use Rattle.state_model.specs.Amplitudes.{AreDistinct}
use Rattle.amplitude_register.proofs.register.Register.begin.Goals as goal

pub clear_front-requires : goal.clear_front-requires
clear_front-requires c =
    let i = c.self.invariant in let n = i.next in let r = n.room in
    let e = ap (λ (t : RegisterState). t.limit) c.self.view_is in
    let p = power_le (length c.args.qubits.now) c.self.inside.limit (omega (arith, e, c.requires.few)) in
    omega (arith, p, r, c.rows_of-rows.ensures)

pub returns : goal.returns
returns c = begin_is c.args.self.now c.self.inside.limit (amplitudes_of c.self.inside.value) (next_of c.self.inside.stage (amplitudes_of c.self.inside.next)) _ c.args.qubits.now c.clear_front.new.entries.items c.rows_of-rows.result c.self.view_is c.write_numbers.ensures.written c.rows_of-rows.ensures c.clear_front.ensures.zeros

pub rows_of-rows-requires : goal.rows_of-rows-requires
rows_of-rows-requires c = let l = c.facts.ensures.limit in omega (arith, l, c.requires.few)

pub invariant_of-self : goal.invariant_of-self
invariant_of-self c =
    let i = c.self.invariant in let n = i.next in
    let e = ap (λ (t : RegisterState). t.limit) c.self.view_is in
    record {
      some = i.some;
      most = i.most;
      value = i.value;
      next = record {
        rows = c.rows_of-rows.ensures;
        count = omega (arith, e, c.requires.few);
        room = c.clear_front.ensures.room ∙ n.room;
        numbers = c.write_numbers.ensures.room;
        distinct = subst AreDistinct (sym c.write_numbers.ensures.written) c.requires.distinct;
      };
      weighed = i.weighed;
      kept = i.kept;
      stage = tt;
    }
