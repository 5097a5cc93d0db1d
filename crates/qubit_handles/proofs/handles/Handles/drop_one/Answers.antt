use Rattle.std.proofs.Common.{◌≡◌, subst, sym, ap, ◌∙◌, Some, position}
use Rattle.qubit_handles.specs.Handle.{AreDistinct, is_named, number_of, without_handle}
use Rattle.qubit_handles.proofs.HandleLemmas.{held_place, number_at, removed_is, dropped_distinct}
use Rattle.qubit_handles.proofs.handles.Handles.drop_one.Goals as goal

pub unreachable-requires : goal.unreachable-requires
unreachable-requires c = held_place c.args.self.now c.args.app c.args.id c.requires.held
    (ap (position (is_named c.args.app c.args.id)) (sym c.self.view_is ∙ sym c.deref.ensures.0) ∙ sym c.place_of.ensures ∙ c.in_default.is)

-- where the dropped handle stood
place : (c : goal.After-remove) → position (is_named c.args.app c.args.id) c.self.inside.list.items ≡ Some c.in-Some.place
place c = ap (position (is_named c.args.app c.args.id)) (sym c.deref.ensures.0) ∙ sym c.place_of.ensures ∙ c.in-Some.is

-- what is left is the list without it
left : (c : goal.After-remove) → c.remove.new.self.items ≡ without_handle c.self.inside.list.items c.args.app c.args.id
left c = c.remove.ensures.items ∙ removed_is c.self.inside.list.items c.args.app c.args.id c.in-Some.place c.self.invariant (place c)

pub invariant_of-self : goal.invariant_of-self
invariant_of-self c = subst AreDistinct (sym (left c)) (dropped_distinct c.self.inside.list.items c.args.app c.args.id c.self.invariant)

pub returns-clause-number : goal.returns-clause-number
returns-clause-number c = ap (λ hs. number_of hs c.args.app c.args.id) (sym c.self.view_is)
    ∙ number_at c.self.inside.list.items c.args.app c.args.id c.in-Some.place c.remove.result (place c) c.remove.ensures.value

pub returns-clause-others : goal.returns-clause-others
returns-clause-others c = left c ∙ ap (λ hs. without_handle hs c.args.app c.args.id) c.self.view_is
