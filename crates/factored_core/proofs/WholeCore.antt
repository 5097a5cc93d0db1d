-- A core that has all cells of a network.
--     has_cells          a call's step can be prepared there
--     left_after         what is left when it is
--     core_step          the step when it is finished
--     core_after         and what the core is then
--     undone             the cells when it is undone
--     stands_grown       a history with the step's entry
use Rattle.std.proofs.Common.{ℕ, ◌≡◌, ◌*◌, ◌<◌, ◌≤◌, ◌==◌, nat_lt, Bool, true, false, not, cond, ◌&&◌, List, [], ◌∷◌, ◌++◌, length, position, Option, Some, None, IsSome, is_some, option_map, unwrap_or, refl, sym, ap, subst, ◌∙◌, ltb-true}
use Rattle.std.proofs.lemmas.List.Quantifiers.{position-Some}
use Rattle.state_model.specs.Row.{is_listed}
use Rattle.state_model.proofs.Booleans.{clash, both_true, eq_true}
use Rattle.network_model.specs.declared.Kind.{Kind}
use Rattle.cqc_model.specs.declared.Remote.{Remote}
use Rattle.network_model.specs.Network.{Network, Shape, opening}
use Rattle.network_model.specs.Kinds.{kind_of, takes_qubit, second_of, remote_of}
use Rattle.network_model.specs.Step.{node_at}
use Rattle.network_model.specs.History.{advance, after}
use Rattle.network_model.specs.Factored.{homes_step, homes_from, homes_after, used_slots}
use Rattle.network_model.specs.declared.Call.{Call}
use Rattle.network_model.specs.declared.Entry.{Entry}
use Rattle.network_model.specs.declared.Place.{Place}
use Rattle.network_model.proofs.Held.{held_live}
use Rattle.network_model.proofs.Histories.{after-last, homes_after-last, legal-last}
use Rattle.qubit_handles.specs.Handle.{number_of}
use Rattle.virtual_node.specs.Node.{Node}
use Rattle.core_cells.specs.Cells.{Cells, CellsFit, HasAllCells, HasHome, IsUnprepared, settled, settled_node, settled_pool, settled_slot, forgotten}
use Rattle.core_cells.specs.Owned.{IsOpened}
use Rattle.core_cells.specs.Nodes.{NodeValues}
use Rattle.core_cells.specs.declared.cells.PoolPair.{PoolPair}
use Rattle.core_cells.specs.declared.cells.SlotCell.{SlotCell}
use Rattle.factored_core.specs.Changes.{Changes, changed, IsPreparedStep}
use Rattle.factored_core.specs.Core.{IsCore, IsCoreStep, StandsFor}
use Rattle.factored_core.specs.Finish.{IsLeftBy}
use Rattle.factored_core.specs.Needs.{first_of, number_at, other_than, other_at, other_of}
use Rattle.factored_core.specs.Ready.{HasCells}
use Rattle.factored_core.specs.declared.prepared.Prepared.{Prepared}
use Rattle.factored_core.proofs.Changed.{there, there_is, some_node, some_pool, some_slot, settled-fit, forgotten-changed}
use Rattle.factored_core.proofs.Finished.{left_by}
use Rattle.factored_core.proofs.Homed.{opening_stands, standing_step, legal_histories_stand}

-- ---- what a call needs
no_number : {A : Type 0} (n : ℕ) → None ≡ Some n → A
no_number n e = absurd (clash (sym (ap is_some e)))

-- the other node is a node of the network
other_within : (shape : Shape) (own : ℕ) (r : Option Remote) (n : ℕ) → other_at shape own r ≡ Some n → n < length shape.places
unfolding other_at other_than node_at
other_within shape own None n e = no_number n e
other_within shape own (Some r) n e = by (position (λ p. (Place.address p == r.node) && (Place.port p == r.port)) shape.places) refl e
  where
    same : (m n : ℕ) → Some m ≡ Some n → m ≡ n
    same m n e = ap (λ o. unwrap_or o m) e

    by : (o : Option ℕ) → position (λ p. (Place.address p == r.node) && (Place.port p == r.port)) shape.places ≡ o → other_than own o ≡ Some n → n < length shape.places
    by None is e = no_number n e
    by (Some m) is e = at (m == own) e
      where
        at : (b : Bool) → cond b None (Some m) ≡ Some n → n < length shape.places
        at true e = no_number n e
        at false e = subst (λ (k : ℕ). k < length shape.places) (same m n e) ((position-Some _ shape.places m (record { address = 0; port = 0 }) is).0)

first_number : (c : Call) (own : Node) (k : Kind) (q : ℕ) → first_of c own k ≡ Some q → number_of own.handles c.app c.command.qubit ≡ Some q
unfolding first_of
first_number c own k q e = by (takes_qubit k) e
  where
    by : (b : Bool) → cond b (number_of own.handles c.app c.command.qubit) None ≡ Some q → number_of own.handles c.app c.command.qubit ≡ Some q
    by true e = e
    by false e = no_number q e

second_number : (app : ℕ) (own : Node) (id : Option ℕ) (q : ℕ) → number_at app own id ≡ Some q → (i : ℕ) × (number_of own.handles app i ≡ Some q)
unfolding number_at
second_number app own None q e = no_number q e
second_number app own (Some id) q e = (id, e)

module _ (shape : Shape) (c : Call) (cs : Cells) (core : IsCore shape cs) (node : c.node < length shape.places) where
  abbrev s : Network
  s = core.stands.state

  abbrev home : ℕ → ℕ
  home = core.stands.home

  own : (w : NodeValues) × (cs.node c.node ≡ Some w)
  own = there_is (cs.node c.node) (core.all.nodes c.node node)

  held : (id q : ℕ) → number_of (own.0).now.handles c.app id ≡ Some q → is_listed s.live q ≡ true
  held id q e = held_live shape s core.stands.standing.sound c.node c.app id q (sym ((core.stands.fit.nodes c.node (own.0) (own.1)).handles c.app id) ∙ e)

  -- a live number's home is a slot that is there, whose register lists it
  at_home : (q : ℕ) → is_listed s.live q ≡ true → HasHome cs q
  at_home q live =
      let w = there_is (cs.slot (home q)) (core.all.slots (home q) (core.stands.standing.homed q live)) in
      (home q, w.0, w.1, (core.stands.fit.slots (home q) (w.0) (w.1)).homes q ∙ ap (λ b. b && (home q == home q)) live ∙ eq_true (home q) (home q) refl)

  low_slot : (w : PoolPair) (t : ℕ) → cs.pool ≡ Some w → is_listed w.now.slots t ≡ true → t < length shape.places * shape.room
  low_slot w t is listed = ltb-true t (length shape.places * shape.room)
      ((both_true (nat_lt t (length shape.places * shape.room)) (not (is_listed (used_slots s.live home) t)) (sym ((core.stands.fit.pool w is).slots_free t) ∙ listed)).0)

  pub has_cells : HasCells shape c cs
  unfolding other_of
  has_cells = record {
    own = own.0;
    own_there = own.1;
    other = λ n e. core.all.nodes n (other_within shape c.node (remote_of (kind_of c.command.instr)) n e);
    pool = λ e. core.all.pool;
    first = λ q e. at_home q (held c.command.qubit q (first_number c (own.0).now (kind_of c.command.instr) q e));
    second = λ q e. let x = second_number c.app (own.0).now (second_of (kind_of c.command.instr)) q e in at_home q (held (x.0) q (x.1));
    free = λ w t needed is least. core.all.slots t (low_slot w t is least.listed);
  }

-- ---- the step
pub left_after : (shape : Shape) (cs mid : Cells) (p : Prepared) → IsPreparedStep shape cs mid p → IsLeftBy mid p
left_after shape cs mid p step = left_by cs mid step.changes p step.after step.named step.there

pub core_step : (shape : Shape) (cs mid new : Cells) (p : Prepared) → IsPreparedStep shape cs mid p → new ≡ settled mid → IsCoreStep shape cs new p.entry
core_step shape cs mid new p step e s home standing fit =
    let h = step.step s home standing fit in
    (h.0, subst (λ (c : Cells). CellsFit shape (advance shape s p.entry) (homes_step s home p.entry) c) (sym (e ∙ ap settled step.after)) (settled-fit shape s home p.entry cs step.changes standing fit (h.0) (h.1)))

-- a step that is undone leaves the cells as they were
pub undone : (shape : Shape) (cs mid new : Cells) (p : Prepared) → IsUnprepared cs → IsPreparedStep shape cs mid p → new ≡ forgotten mid → new ≡ cs
undone shape cs mid new p free step e = e ∙ ap forgotten step.after ∙ forgotten-changed cs step.changes free

-- nothing is prepared where all is settled
settled-unprepared : (cs : Cells) → IsUnprepared (settled cs)
unfolding settled
settled-unprepared cs = record {
  node = λ m w is. let x = there settled_node (cs.node m) w is in sym (ap (λ (v : NodeValues). v.next) (x.1.1));
  pool = λ w is. let x = there settled_pool cs.pool w is in sym (ap (λ (v : PoolPair). v.next) (x.1.1));
  slot = λ t w is. let x = there settled_slot (cs.slot t) w is in sym (ap (λ (v : SlotCell). v.register.next) (x.1.1));
}

mapped : {A : Type 0} (f : A → A) (o : Option A) → IsSome o → IsSome (option_map f o)
mapped f None h = h
mapped f (Some a) h = h

settled-all : (shape : Shape) (cs : Cells) (ch : Changes) → HasAllCells shape cs → HasAllCells shape (settled (changed cs ch))
unfolding settled
settled-all shape cs ch all = record {
  nodes = λ m low. mapped settled_node ((changed cs ch).node m) (some_node cs ch m (all.nodes m low));
  pool = mapped settled_pool (changed cs ch).pool (some_pool cs ch all.pool);
  slots = λ t low. mapped settled_slot ((changed cs ch).slot t) (some_slot cs ch t (all.slots t low));
}

pub core_after : (shape : Shape) (cs mid new : Cells) (p : Prepared) → IsCore shape cs → IsPreparedStep shape cs mid p → new ≡ settled mid → IsCore shape new
core_after shape cs mid new p core step e =
    let h = core_step shape cs mid (settled mid) p step refl core.stands.state core.stands.home core.stands.standing core.stands.fit in
    subst (λ (c : Cells). IsCore shape c) (sym e) (record {
      all = subst (λ (c : Cells). HasAllCells shape (settled c)) (sym step.after) (settled-all shape cs step.changes core.all);
      unprepared = settled-unprepared mid;
      stands = record {
        state = advance shape core.stands.state p.entry;
        home = homes_step core.stands.state core.stands.home p.entry;
        standing = standing_step shape core.stands.state core.stands.home p.entry core.stands.standing (h.0);
        fit = h.1;
      };
    })

-- ---- from the opening on
pub opened_core : (shape : Shape) (cs : Cells) → 1 ≤ shape.limit → IsOpened shape cs → IsCore shape cs
opened_core shape cs limit opened = record {
  all = opened.all;
  unprepared = opened.unprepared;
  stands = record { state = opening; home = λ q. 0; standing = opening_stands shape limit; fit = opened.fits };
}

pub opened_stands : (shape : Shape) (cs : Cells) → 1 ≤ shape.limit → IsOpened shape cs → StandsFor shape [] cs
unfolding after homes_after homes_from
opened_stands shape cs limit opened = record { legal = tt; standing = opening_stands shape limit; fit = opened.fits }

-- a history with one entry more
pub stands_grown : (shape : Shape) (h : List Entry) (e : Entry) (old new : Cells) → StandsFor shape h old → IsCoreStep shape old new e → StandsFor shape (h ++ e ∷ []) new
stands_grown shape h e old new stands step =
    let s = step (after shape h) (homes_after shape h) stands.standing stands.fit in
    let legal = legal-last shape h e stands.legal (s.0) in
    record {
      legal = legal;
      standing = legal_histories_stand shape (h ++ e ∷ []) stands.standing.limit legal;
      fit = subst (λ (t : Network). CellsFit shape t (homes_after shape (h ++ e ∷ [])) new) (sym (after-last shape h e))
          (subst (λ (f : ℕ → ℕ). CellsFit shape (advance shape (after shape h) e) f new) (sym (homes_after-last shape h e)) (s.1));
    }
