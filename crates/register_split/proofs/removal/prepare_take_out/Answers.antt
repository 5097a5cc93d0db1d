use Rattle.state_model.specs.CoefficientList.{total_weight}
use Rattle.amplitude_register.specs.States.{next_value}
use Rattle.register_split.specs.Removal.{IsDrafted}
use Rattle.register_split.proofs.Drafts.{drafted_nonzero, drafted_small, smaller, sealed_taken, refused_not}
use Rattle.register_split.proofs.removal.prepare_take_out.Goals as goal

pub seal-requires-clause-nonzero : goal.seal-requires-clause-nonzero
seal-requires-clause-nonzero c = drafted_nonzero c.args.place c.args.bit c.args.reg.now c.draft_kept.new.reg c.facts.ensures.rows c.requires.place c.requires.some c.draft_kept.ensures

pub seal-requires-clause-small : goal.seal-requires-clause-small
seal-requires-clause-small c = smaller (total_weight (next_value c.draft_kept.new.reg.next).list).x (drafted_small c.args.place c.args.bit c.args.reg.now c.draft_kept.new.reg c.facts.ensures.rows c.facts.ensures.kept c.requires.place c.draft_kept.ensures)

pub seal-requires-clause-divisors : goal.seal-requires-clause-divisors
seal-requires-clause-divisors c = drafted_small c.args.place c.args.bit c.args.reg.now c.draft_kept.new.reg c.facts.ensures.rows c.facts.ensures.kept c.requires.place c.draft_kept.ensures

pub unreachable-requires : goal.unreachable-requires
unreachable-requires c =
    let d : IsDrafted c.args.place c.args.bit c.args.reg.now c.draft_kept.new.reg = c.draft_kept.ensures in
    refused_not c.draft_kept.new.reg c.seal.new.self c.in_default.field-0.size
    (drafted_nonzero c.args.place c.args.bit c.args.reg.now c.draft_kept.new.reg c.facts.ensures.rows c.requires.place c.requires.some d)
    (drafted_small c.args.place c.args.bit c.args.reg.now c.draft_kept.new.reg c.facts.ensures.rows c.facts.ensures.kept c.requires.place d)
    c.in_default.ensures

pub returns : goal.returns
returns c = sealed_taken c.args.place c.args.bit c.args.reg.now c.draft_kept.new.reg c.seal.new.self c.facts.ensures.rows c.requires.place c.draft_kept.ensures c.in-Ok.ensures
