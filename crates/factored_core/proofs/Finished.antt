-- A prepared step that is finished or undone: what is done to the cells that it names is done to all cells, since the others had
-- nothing prepared.
--     all_done    finished or undone
--     left_by     what a prepared step leaves
use Rattle.std.proofs.Common.{◌≡◌, Bool, true, false, cond, Option, Some, None, is_some, option_map, unwrap_or, refl, sym, ap, subst, ◌∙◌}
use Rattle.state_model.specs.Amplitudes.{Amplitudes}
use Rattle.state_model.proofs.Booleans.{clash}
use Rattle.amplitude_register.specs.States.{Next, empty}
use Rattle.virtual_node.specs.Node.{Node}
use Rattle.core_cells.specs.Pool.{Pool}
use Rattle.core_cells.specs.Cells.{Cells, settled, forgotten}
use Rattle.core_cells.specs.Names.{names_node, names_pool, names_slot, AreThere, done_by, on_named}
use Rattle.core_cells.specs.Nodes.{NodeValues}
use Rattle.core_cells.specs.declared.cells.PoolPair.{PoolPair}
use Rattle.core_cells.specs.declared.cells.SlotCell.{SlotCell}
use Rattle.core_cells.specs.declared.names.Ending.{Ending}
use Rattle.core_cells.specs.declared.names.Ending.TheVariants.{Settle, Forget}
use Rattle.core_cells.proofs.CellLemmas.{cells_by}
use Rattle.factored_core.specs.Changes.{Changes, change_at, next_of, changed, with_next_node, with_next_pool, with_next_slot, AreNamed}
use Rattle.factored_core.specs.Finish.{IsNextWhere, IsLeftBy}
use Rattle.factored_core.specs.declared.prepared.Prepared.{Prepared}
use Rattle.factored_core.proofs.Changed.{there, some_node, some_pool, some_slot}

-- what is done where a name stands is done everywhere, if it leaves what isn't named
everywhere : {A : Type 0} (f : A → A) (b : Bool) (o : Option A) → ((w : A) → o ≡ Some w → b ≡ false → f w ≡ w) → cond b (option_map f o) o ≡ option_map f o
everywhere f true o h = refl
everywhere f false None h = refl
everywhere f false (Some w) h = ap Some (sym (h w refl refl))

none_of : {A : Type 0} (o : Option A) → is_some o ≡ false → o ≡ None
none_of None e = refl
none_of (Some a) e = absurd (clash e)

empty_of : (b : Bool) (next : Next) → IsNextWhere b next → b ≡ false → next ≡ empty
empty_of true next h e = absurd (clash e)
empty_of false next h e = h

-- a cell without a next value stays
node_stays : (e : Ending) (w : NodeValues) → w.next ≡ None → (done_by e).node w ≡ w
node_stays Settle w e = ap (λ (o : Option Node). record { now = unwrap_or o w.now; next = None }) e ∙ ap (λ (o : Option Node). record { now = w.now; next = o }) (sym e)
node_stays Forget w e = ap (λ (o : Option Node). record { now = w.now; next = o }) (sym e)

pool_stays : (e : Ending) (w : PoolPair) → w.next ≡ None → (done_by e).pool w ≡ w
pool_stays Settle w e = ap (λ (o : Option Pool). record { now = unwrap_or o w.now; next = None }) e ∙ ap (λ (o : Option Pool). record { now = w.now; next = o }) (sym e)
pool_stays Forget w e = ap (λ (o : Option Pool). record { now = w.now; next = o }) (sym e)

slot_stays : (e : Ending) (w : SlotCell) → w.register.next ≡ empty → (done_by e).slot w ≡ w
slot_stays Settle w e = ap (λ (n : Next). (done_by Settle).slot (record { register = record w.register { next = n } })) e ∙ ap (λ (n : Next). record { register = record w.register { next = n } }) (sym e)
slot_stays Forget w e = ap (λ (n : Next). record { register = record w.register { next = n } }) (sym e)

-- all cells, finished or undone
abbrev pub ended : Ending → Cells → Cells
ended Settle cs = settled cs
ended Forget cs = forgotten cs

module _ (cs : Cells) (p : Prepared) (left : IsLeftBy cs p) where
  abbrev all : Ending → Cells
  all e = record { node = λ m. option_map (done_by e).node (cs.node m); pool = option_map (done_by e).pool cs.pool; slot = λ t. option_map (done_by e).slot (cs.slot t) }

  is_all : (e : Ending) → all e ≡ ended e cs
  unfolding settled forgotten
  is_all Settle = refl
  is_all Forget = refl

  pub all_done : (e : Ending) (new : Cells) → new ≡ on_named (done_by e) p.touched cs → new ≡ ended e cs
  unfolding on_named
  all_done e new is = is ∙ cells_by (on_named (done_by e) p.touched cs) (all e)
      (λ m. everywhere (done_by e).node (names_node p.touched m) (cs.node m) (λ w at no. node_stays e w (none_of w.next (left.node m w at ∙ no))))
      (everywhere (done_by e).pool (names_pool p.touched) cs.pool (λ w at no. pool_stays e w (none_of w.next (left.pool w at ∙ no))))
      (λ t. everywhere (done_by e).slot (names_slot p.touched t) (cs.slot t) (λ w at no. slot_stays e w (empty_of (names_slot p.touched t) w.register.next (left.slot t w at) no)))
      ∙ is_all e

-- ---- what a prepared step leaves
next_where : (o : Option Amplitudes) (b : Bool) → b ≡ is_some o → IsNextWhere b (next_of o)
next_where None true e = absurd (clash e)
next_where None false e = refl
next_where (Some a) true e = (a, refl)
next_where (Some a) false e = absurd (clash (sym e))

pub left_by : (cs new : Cells) (ch : Changes) (p : Prepared) → new ≡ changed cs ch → AreNamed p ch → AreThere cs p.touched → IsLeftBy new p
unfolding changed
left_by cs new ch p e named there_all = subst (λ (c : Cells). IsLeftBy c p) (sym e) (record {
  there = record {
    node = λ m is. some_node cs ch m (there_all.node m is);
    pool = λ is. some_pool cs ch (there_all.pool is);
    slot = λ t is. some_slot cs ch t (there_all.slot t is);
  };
  node = λ m w is. let x = there (with_next_node (change_at ch.nodes m)) (cs.node m) w is in ap (λ (v : NodeValues). is_some v.next) (sym (x.1.1)) ∙ sym (named.nodes m);
  pool = λ w is. let x = there (with_next_pool ch.pool) cs.pool w is in ap (λ (v : PoolPair). is_some v.next) (sym (x.1.1)) ∙ sym named.pool;
  slot = λ t w is. let x = there (with_next_slot (change_at ch.slots t)) (cs.slot t) w is in
      subst (λ (v : SlotCell). IsNextWhere (names_slot p.touched t) v.register.next) (x.1.1) (next_where (change_at ch.slots t) (names_slot p.touched t) (named.slots t));
})
