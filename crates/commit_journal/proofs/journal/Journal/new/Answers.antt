use Rattle.std.proofs.Common.{◌∙◌, ap, sym, replicate, arith}
use Rattle.commit_journal.proofs.Keeps.{keeps_none}
use Rattle.commit_journal.proofs.journal.Journal.new.Goals as goal

pub invariant_of-result : goal.invariant_of-result
invariant_of-result g c = (
  c.open-history.ensures ∙ sym c.in_ok-entries.ensures.items,
  keeps_none g.N.Framed.shape g.N.Framed.cells g.N.Framed.seats c.in_ok-entries.entries.items c.in_ok-kept.kept.items c.in_ok-made.made.items c.requires.limit c.in_ok-entries.ensures.items
      (c.in_ok-kept.ensures ∙ ap (λ n. replicate n 0) (sym c.requires.frame.1)) (c.in_ok-made.ensures ∙ ap (λ n. replicate n 0) (sym c.requires.frame.2)),
  omega (arith, c.in_ok-entries.ensures.len),
  omega (arith, c.in_ok-entries.ensures.capacity),
  omega arith,
  sym c.requires.frame.0,
  omega (arith, c.requires.frame.1, c.requires.most.0),
  omega (arith, c.requires.frame.2, c.requires.most.1),
)
