use Rattle.amplitude_register.specs.States.{next_value}
use Rattle.amplitude_register.specs.declared.register.TooLarge.{TooLarge}
use Rattle.amplitude_register.proofs.SealedDrafts.{full_small, scaled_nonzero, sealed_after}
use Rattle.amplitude_register.proofs.register.Register.seal.Goals as goal

pub seal_draft-requires-in-Full-clause-nonzero : goal.seal_draft-requires-in-Full-clause-nonzero
seal_draft-requires-in-Full-clause-nonzero c = scaled_nonzero (next_value c.divide_draft.new.self.next).list (next_value c.args.self.now.next).list c.divide_draft.ensures.scaled c.requires.nonzero

pub returns-in-Full : goal.returns-in-Full
returns-in-Full c =
    let d = c.divide_draft.ensures in
    sealed_after (λ (e : TooLarge). e.size) c.args.self.now c.divide_draft.new.self c.seal_draft-in-Full.new.self c.seal_draft-in-Full.result d.after d.rows d.scaled c.requires.nonzero (full_small c.args.how (next_value c.args.self.now.next).list c.in-Full.is c.requires.divisors) c.seal_draft-in-Full.ensures
