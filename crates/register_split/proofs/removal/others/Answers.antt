use Rattle.std.proofs.Common.{◌∙◌, get_or, ap, arith}
use Rattle.std.proofs.lemmas.List.{length-set}
use Rattle.register_split.proofs.Others.{more_copied, all_copied, skip_is}
use Rattle.register_split.proofs.removal.others.Goals as goal

pub loop-k-preserved : goal.loop-k-preserved
loop-k-preserved c =
    let h = c.loop-k.invariant in let r = h.room in let few = c.requires.few in
    record {
      room = length-set c.loop-k.rest c.loop-k.k (get_or c.args.qubits.now c.other_place.result 0) ∙ r;
      done = more_copied c.args.qubits.now c.loop-k.rest c.args.place c.loop-k.k (get_or c.args.qubits.now c.other_place.result 0) (omega (arith, r, few)) h.done (ap (λ n. get_or c.args.qubits.now n 0) (skip_is c.args.place c.loop-k.k c.other_place.result c.other_place.ensures.low c.other_place.ensures.high));
    }

pub returns : goal.returns
returns c =
    let h = c.loop-k.invariant in let r = h.room in let few = c.requires.few in
    all_copied c.args.qubits.now c.loop-k.rest c.args.place c.requires.distinct c.requires.place (omega (arith, r, few)) (λ i l. h.done i (omega (arith, l)))
