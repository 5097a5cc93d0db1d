use Rattle.std.proofs.Common.{sym, subst}
use Rattle.amplitude_register.specs.States.{RegisterState}
use Rattle.register_split.specs.Removal.{IsDrafted}
use Rattle.register_split.proofs.Drafts.{drafted_from}
use Rattle.register_split.proofs.removal.draft_kept.Goals as goal

pub returns : goal.returns
returns c =
    subst (λ (t : RegisterState). IsDrafted c.args.place c.args.bit c.args.reg.now t) (sym c.weigh.ensures)
    (drafted_from c.args.place c.args.bit c.args.reg.now c.begin_others.new.reg c.copy_rows-weight.new.reg _ c.begin_others.ensures c.copy_rows-weight.ensures.drafted)
