use Rattle.std.proofs.Common.{◌<◌, length, ap, refl, sym, subst, ◌∙◌, slice_get, arith}
use Rattle.std.proofs.lemmas.Option.{slice_get_read}
use Rattle.virtual_node.specs.Node.{Node, AreInformed}
use Rattle.virtual_node.proofs.NodeLemmas.{still_informed, fewer_arrivals}
use Rattle.virtual_node.proofs.cell.NodeCell.take.Goals as goal

pub invariant_of-self : goal.invariant_of-self
invariant_of-self c = (
  (let left = fewer_arrivals c.self.inside.arrivals.items c.remove.new.self.items c.args.place c.remove.ensures.items in
      let room = c.self.invariant.0 in
      omega arith),
  subst AreInformed (sym c.remove.ensures.items) (still_informed c.self.inside.arrivals.items c.args.place c.self.invariant.1),
)

pub returns-clause-arrival : goal.returns-clause-arrival
returns-clause-arrival c = ap (λ n. slice_get (Node.arrivals n) c.args.place) (sym c.self.view_is)
    ∙ slice_get_read c.self.inside.arrivals.items (length c.self.inside.arrivals.items) c.args.place c.remove.result refl
    (subst (λ n. c.args.place < length (Node.arrivals n)) (sym c.self.view_is) c.requires.place) c.remove.ensures.value
