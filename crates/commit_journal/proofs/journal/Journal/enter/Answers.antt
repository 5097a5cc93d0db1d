use Rattle.std.proofs.Common.{◌≡◌, ◌<◌, ◌+◌, ◌++◌, ◌∷◌, [], ℕ, List, length, ap, sym, ◌∙◌, arith, subst, get_or, slice_set}
use Rattle.std.proofs.lemmas.List.{get_or_read}
use Rattle.network_model.specs.declared.Entry.{Entry}
use Rattle.commit_journal.specs.Keeping.{Keeps}
use Rattle.commit_journal.specs.Holding.{IsEntered, AreMarked}
use Rattle.commit_journal.proofs.Keeps.{keeps_more, own_few}
use Rattle.commit_journal.proofs.journal.Journal.enter.Goals as goal

pub overflow_add-index_mut : goal.overflow_add-index_mut
overflow_add-index_mut g c =
    let keeps = c.self.invariant.1 in
    let made : List ℕ = c.self.inside.made.items in
    let seat : ℕ = c.args.entry.call.seat in
    let within : seat < length made = omega (arith, c.requires.seat, keeps.seats_kept) in
    let is : c.index_mut.result.now ≡ get_or made seat 0 = get_or_read made _ _ within c.index_mut.ensures.value 0 in
    let room : length c.self.inside.entries.items < g.N.Framed.capacity = subst (λ (l : List Entry). length l < g.N.Framed.capacity) (sym c.self.view_is) c.requires.room in
    omega (arith, is, keeps.own seat c.requires.seat, own_few seat c.self.inside.entries.items, room, c.self.invariant.4, c.self.invariant.5)

pub invariant_of-self : goal.invariant_of-self
invariant_of-self g c =
    let shape = g.N.Framed.shape in
    let cells = g.N.Framed.cells in
    let seats = g.N.Framed.seats in
    let keeps = c.self.invariant.1 in
    let made : List ℕ = c.self.inside.made.items in
    let seat : ℕ = c.args.entry.call.seat in
    let log : List Entry = c.self.inside.entries.items in
    let e : Entry = c.args.entry in
    let within : seat < length made = omega (arith, c.requires.seat, keeps.seats_kept) in
    let is : c.index_mut.result.now ≡ get_or made seat 0 = get_or_read made _ _ within c.index_mut.ensures.value 0 in
    let all : c.push.new.self.items ≡ log ++ e ∷ [] = c.in-Ok.ensures.items in
    let size : c.len.result ≡ length log = omega (arith, c.len.ensures, c.self.inside.entries.ok.0) in
    let room : length log < g.N.Framed.capacity = subst (λ (l : List Entry). length l < g.N.Framed.capacity) (sym c.self.view_is) c.requires.room in
    let entered = subst (λ (l : List Entry). IsEntered g.C.Cells.fits g.C.Cells.has_next g.C.Cells.settled shape cells c.args.hold.now.slots l e) (sym c.self.view_is) c.requires.entered in
    let marks = subst (λ (n : ℕ). AreMarked g.C.Cells.has_next (length c.args.hold.now.slots) c.args.hold.now.slots (n + 1) c.self.inside.kept.items c.settle_all.new.kept.items) size c.settle_all.ensures.kept in
    let more = keeps_more g.C.Cells.fits g.C.Cells.has_next g.C.Cells.settled shape cells c.args.hold.now.slots log e entered seats c.self.inside.kept.items c.settle_all.new.kept.items made keeps c.requires.seat marks in (
      c.settle_all.ensures.pen ∙ (c.append.ensures ∙ (ap (λ (l : List Entry). l ++ e ∷ []) c.self.invariant.0 ∙ sym all)),
      subst (λ (l : List Entry). Keeps shape cells seats l c.settle_all.new.kept.items (slice_set made seat (c.index_mut.result.now + 1))) (sym all)
          (subst (λ (n : ℕ). Keeps shape cells seats (log ++ e ∷ []) c.settle_all.new.kept.items (slice_set made seat (n + 1))) (sym is) more),
      omega (arith, c.in-Ok.ensures.len, c.len.ensures, size, room, c.self.invariant.5),
      omega (arith, c.push.ensures.capacity, c.in-Ok.ensures.capacity, c.self.invariant.3),
      c.self.invariant.4,
      c.self.invariant.5,
      c.self.invariant.6,
      c.self.invariant.7,
    )
