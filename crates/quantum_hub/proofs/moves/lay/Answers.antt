use Rattle.std.proofs.Common.{◌<◌, length, subst, arith}
use Rattle.network_model.specs.Network.{Shape}
use Rattle.held_board.specs.Held.{held_cells}
use Rattle.commit_journal.proofs.Slots.{held_place}
use Rattle.quantum_hub.proofs.Loads.{at_first, laying_more, all_laid}
use Rattle.quantum_hub.proofs.moves.lay.Goals as goal

pub lay_one-requires-clause-fits : goal.lay_one-requires-clause-fits
lay_one-requires-clause-fits g c x none at =
    let lt : c.loop-place.place < length c.args.hold.now.slots = omega (arith, c.len-place-end.ensures, c.loop-place-test.true) in
    let first = at_first c.args.hold.now.slots c.loop-place.hold.slots c.loop-place.place c.at.result.now (c.loop-place.invariant.later c.loop-place.place (omega arith)) c.at.ensures.value in
    c.requires.fits c.at.result.now x (held_place c.args.hold.now.slots c.loop-place.place c.at.result.now lt first) none (c.loop-place.invariant.fewer c.at.result.now.number x at)

pub loop-place-preserved : goal.loop-place-preserved
loop-place-preserved g c =
    let lt : c.loop-place.place < length c.args.hold.now.slots = omega (arith, c.len-place-end.ensures, c.loop-place-test.true) in
    let first = at_first c.args.hold.now.slots c.loop-place.hold.slots c.loop-place.place c.at.result.now (c.loop-place.invariant.later c.loop-place.place (omega arith)) c.at.ensures.value in
    laying_more g.N.Framed.shape c.loop-place.place c.args.hold.now c.loop-place.hold (held_cells c.args.board.now) (held_cells c.loop-place.board) (held_cells c.lay_one.new.board) c.loop-place.invariant c.at.result.now c.lay_one.new.stamped lt
    c.at.ensures.value (λ x is. c.requires.idle c.at.result.now x (held_place c.args.hold.now.slots c.loop-place.place c.at.result.now lt first) is) (c.lay_one.ensures c.if-not-lay_one.false)

pub returns : goal.returns
returns g c e =
    all_laid g.N.Framed.shape c.loop-place.place c.args.hold.now c.loop-place.hold (held_cells c.args.board.now) (held_cells c.loop-place.board) c.loop-place.invariant (omega (arith, c.len-place-end.ensures, c.loop-place-test.false))
    (λ m has. subst (λ (s : Shape). m < length s.places) c.requires.shape (c.requires.nodes m has)) (c.is_empty.ensures.none e)
