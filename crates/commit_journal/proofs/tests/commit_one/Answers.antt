use Rattle.std.proofs.Common.{◌++◌, ◌∷◌, [], ℕ, List, true, refl, sym, ap, subst, ◌∙◌, arith}
use Rattle.network_model.specs.Network.{Shape}
use Rattle.network_model.specs.declared.Call.{Call}
use Rattle.network_model.specs.declared.Entry.{Entry}
use Rattle.register_locks.specs.declared.slot.Slot.{Slot}
use Rattle.commit_journal.specs.Views.{Stamp}
use Rattle.commit_journal.specs.Holding.{HasEntry}
use Rattle.commit_journal.specs.declared.tests.Flag.{Flag}
use Rattle.commit_journal.specs.contracts.tests.FlagCells.TheImpl as flag
use Rattle.commit_journal.proofs.Refused.{pair_with_itself, entry_is, one_has_entry}
use Rattle.commit_journal.proofs.tests.commit_one.Goals as goal

pub commit-requires : goal.commit-requires
commit-requires g c =
    let taken = c.take.ensures.taken in
    let slots = taken.2 ∙ ap (λ (l : List (Slot (Stamp Flag))). l ++ taken.0 ∷ []) c.begin-hold.ensures.1 in
    let entry = entry_is c.refused-entry.result c.seat.result c.refused-entry.ensures.call c.refused-entry.ensures.reply.0 c.refused-entry.ensures.reply.1 in
    let has = one_has_entry c.take.new.self.slots c.prepare.new.hold.slots taken.0 taken.1 c.prepare.ensures.0 (record { is_ready = true }) slots taken.3 taken.4 taken.5
    c.prepare.ensures.1 c.prepare.ensures.2 (flag.fits-value).it (flag.has_next-value).it (flag.settled-value).it c.seat.result (omega (arith, c.seat.type_inv)) refl (λ n x h. tt) in (
      omega arith,
      (
        ap (λ (k : Call). k.seat) c.refused-entry.ensures.call ∙ c.seat.ensures.0,
        subst (λ (e : Entry). HasEntry (flag.fits-value).it (flag.has_next-value).it (flag.settled-value).it g.N.Framed.shape g.N.Framed.cells c.prepare.new.hold.slots e) (sym entry)
            (subst (λ (n : ℕ). HasEntry (flag.fits-value).it (flag.has_next-value).it (flag.settled-value).it g.N.Framed.shape n c.prepare.new.hold.slots (pair_with_itself c.seat.result)) (sym c.requires.network.1)
            (subst (λ (s : Shape). HasEntry (flag.fits-value).it (flag.has_next-value).it (flag.settled-value).it s 1 c.prepare.new.hold.slots (pair_with_itself c.seat.result)) (sym c.requires.network.0) has)),
      ),
    )
