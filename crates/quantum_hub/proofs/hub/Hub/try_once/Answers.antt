use Rattle.std.proofs.Common.{◌<◌, length, is_some, refl, sym, ap, subst, ◌∙◌, arith}
use Rattle.network_model.specs.Network.{Shape}
use Rattle.network_model.specs.declared.Call.{Call}
use Rattle.network_model.specs.declared.Entry.{Entry}
use Rattle.core_cells.specs.Cells.{Cells}
use Rattle.factored_core.specs.Changes.{Stands, IsPreparedStep}
use Rattle.factored_core.specs.Ready.{IsAllowedCall}
use Rattle.held_board.specs.Held.{held_cells}
use Rattle.commit_journal.specs.Holding.{HasEntry}
use Rattle.hub_cells.proofs.Entries.{prepared_steps_have_entries}
use Rattle.hub_cells.specs.Cell.{FitsCell, has_next, settled_cell}
use Rattle.quantum_hub.specs.Moves.{IsLoaded}
use Rattle.quantum_hub.specs.Steps.{KeepsValues, IsMade}
use Rattle.quantum_hub.proofs.Steps.{forgotten_mapped, apart_mapped, loaded_none, cells_fit, standing, stands, unprepared, laid_nodes, lay_fits, lay_idle}
use Rattle.quantum_hub.proofs.Tried.{executed, not_committed, found_nothing, no_timeout}
use Rattle.quantum_hub.proofs.hub.Hub.try_once.Goals as goal

pub load-requires : goal.load-requires
load-requires g c = (omega arith, (c.args.self.now.is_shape, loaded_none g.N.Framed.shape c.args.picks.now c.look.new.hold.slots c.new-board.result c.new-board.ensures))

pub make-made-requires : goal.make-made-requires
make-made-requires g c =
    let S = g.N.Framed.shape in
    let slots = c.look.new.hold.slots in
    let cs : Cells = held_cells c.load.new.board in
    let loaded : IsLoaded S c.args.picks.now slots cs = c.load.ensures.loaded c.if-not-load.false in
    let limit = c.in-Some.ensures.limit in
    record {
      stands = subst (λ (s : Shape). Stands s cs) (sym c.args.self.now.is_shape) (stands S limit c.args.picks.now slots cs loaded c.look.new.pass.seen c.in-Some.ensures.legal c.in-Some.ensures.fits);
      unprepared = unprepared S limit c.args.picks.now slots cs loaded (forgotten_mapped c.args.hold.now c.look.new.hold c.in-Some.ensures.forgotten);
      allowed = subst (λ (s : Shape). IsAllowedCall s c.args.call.now) (sym c.args.self.now.is_shape) c.requires.call.allowed;
      words = c.requires.call.words;
    }

pub lay-requires : goal.lay-requires
lay-requires g c =
    let S = g.N.Framed.shape in
    let slots = c.look.new.hold.slots in
    let cs : Cells = held_cells c.load.new.board in
    let new : Cells = held_cells c.make-made.new.board in
    let loaded : IsLoaded S c.args.picks.now slots cs = c.load.ensures.loaded c.if-not-load.false in
    let keeps : KeepsValues S cs new = subst (λ (s : Shape). KeepsValues s cs new) c.args.self.now.is_shape c.make-made.ensures.kept in
    let limit = c.in-Some.ensures.limit in
    let forgotten = forgotten_mapped c.args.hold.now c.look.new.hold c.in-Some.ensures.forgotten in
    let apart = apart_mapped c.args.hold.now c.look.new.hold c.in-Some.ensures.forgotten c.requires.apart in
    let lifted = c.load.ensures.lifted c.if-not-load.false in (
      omega arith,
      (
        c.args.self.now.is_shape,
        (
          c.args.self.now.few,
          (
            (λ m has. subst (λ (s : Shape). m < length s.places) (sym c.args.self.now.is_shape) (laid_nodes S limit c.args.picks.now slots cs loaded new keeps m has)),
            (
              lay_fits S limit c.args.picks.now slots cs loaded new keeps c.load.new.hold c.look.new.hold refl lifted apart,
              lay_idle S limit c.args.picks.now slots cs loaded new keeps c.load.new.hold c.look.new.hold refl lifted forgotten,
            ),
          ),
        ),
      ),
    )

pub end-requires : goal.end-requires
end-requires g c =
    let S = g.N.Framed.shape in
    let cs : Cells = held_cells c.load.new.board in
    let made = c.in-Step.ensures.made in
    let step = subst (λ (s : Shape). IsPreparedStep s cs (held_cells c.make-made.new.board) made.prepared) c.args.self.now.is_shape made.step in (
      omega arith,
      (
        ap (λ (x : Call). x.seat) made.call_is ∙ c.requires.call.seat ∙ sym c.look.ensures.waited.seat,
        subst (λ (x : Entry). HasEntry FitsCell has_next settled_cell S g.N.Framed.cells c.lay.new.hold.slots x) (sym made.entry_is)
            (prepared_steps_have_entries S g.N.Framed.cells cs (held_cells c.make-made.new.board) made.prepared c.lay.new.hold.slots c.in-Some.ensures.limit step (c.lay.ensures c.if-not-lay.false)),
      ),
    )

pub returns-in-Ok-clause-tried : goal.returns-in-Ok-clause-tried
returns-in-Ok-clause-tried g c =
    let S = g.N.Framed.shape in
    let slots = c.look.new.hold.slots in
    let cs : Cells = held_cells c.load.new.board in
    let loaded : IsLoaded S c.args.picks.now slots cs = c.load.ensures.loaded c.if-not-load.false in
    let h = c.look.new.pass.seen in
    let limit = c.in-Some.ensures.limit in
    let fit = cells_fit S limit c.args.picks.now slots cs loaded h c.in-Some.ensures.legal c.in-Some.ensures.fits in
    let dice = c.args.dice.now in
    let next = g.D.Dice.word (g.D.Dice.key dice) (g.D.Dice.begun_seat dice) (g.D.Dice.begun_serial dice) (g.D.Dice.taken dice) in
    let before = g.D.Dice.taken dice in
    let now = g.D.Dice.taken c.make-made.new.dice in
    let new : Cells = held_cells c.make-made.new.board in
    let made : IsMade S c.args.call.now c.args.awaited next before now cs new c.in-Step.entry =
    subst (λ (s : Shape). IsMade s c.args.call.now c.args.awaited next before now cs new c.in-Step.entry) c.args.self.now.is_shape c.in-Step.ensures.made in (
      executed S c.args.call.now c.args.awaited next before now cs new c.in-Step.entry c.args.pass.now c.look.new.pass c.end.new.pass made c.look.ensures.waited c.in-Ok.ensures.added c.in-Ok.ensures.own,
      no_timeout S c.args.call.now c.args.awaited c.requires.awaits h cs fit (standing S limit c.args.picks.now slots cs loaded h c.in-Some.ensures.legal c.in-Some.ensures.fits) next before now new c.in-Step.entry made,
    )

pub returns-in-Step-clause-tried : goal.returns-in-Step-clause-tried
returns-in-Step-clause-tried g c =
    let dice = c.args.dice.now in
    let next = g.D.Dice.word (g.D.Dice.key dice) (g.D.Dice.begun_seat dice) (g.D.Dice.begun_serial dice) (g.D.Dice.taken dice) in
    not_committed g.N.Framed.shape g.N.Framed.capacity c.args.call.now c.args.awaited c.in-Step.entry.word next (g.D.Dice.taken dice) (g.D.Dice.taken c.make-made.new.dice) c.args.pass.now c.look.new.pass c.end.new.pass c.in-Err.fault c.failed.result
    c.failed.ensures c.look.ensures.waited c.in-Err.ensures.waited c.in-Err.ensures.full c.in-Step.ensures.made.drawn

pub returns-in-Empty-clause-tried : goal.returns-in-Empty-clause-tried
returns-in-Empty-clause-tried g c =
    let looked = c.in-Some.ensures in
    let cs : Cells = held_cells c.load.new.board in
    let fit = cells_fit g.N.Framed.shape looked.limit c.args.picks.now c.look.new.hold.slots cs (c.load.ensures.loaded c.if-not-load.false) c.look.new.pass.seen looked.legal looked.fits in
    let made = c.in-Empty.ensures.made in
    record {
      waited = c.look.ensures.waited;
      awaits = ap is_some made.1;
      all = looked.entries;
      nothing = found_nothing g.N.Framed.shape c.args.call.now c.args.awaited c.requires.awaits c.look.new.pass.seen cs fit made.0 made.1 made.2;
      words = made.3;
    }
