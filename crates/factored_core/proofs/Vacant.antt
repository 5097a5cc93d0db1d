-- What is free where a node has room: the least number and slot that the pool lists are the model's.
use Rattle.std.proofs.Common.{ℕ, ◌≡◌, ◌<◌, ◌==◌, true, not, ◌&&◌, [], ◌∷◌, Some, IsSome, refl, sym, ap, subst, ◌∙◌}
use Rattle.state_model.specs.Row.{is_listed}
use Rattle.state_model.proofs.Booleans.{clash}
use Rattle.network_model.specs.Network.{Network, Shape, load}
use Rattle.network_model.specs.Kinds.{kind_of, is_making, is_measurement}
use Rattle.network_model.specs.Step.{least_free}
use Rattle.network_model.specs.Factored.{FitsPool, used_slots}
use Rattle.network_model.specs.declared.Call.{Call}
use Rattle.network_model.specs.declared.Kind.{Kind}
use Rattle.network_model.specs.declared.Kind.TheVariants.{Measure, Make, Pair}
use Rattle.qubit_handles.specs.Handle.{AreDistinct}
use Rattle.virtual_node.specs.Node.{Node, load_of}
use Rattle.cell_laws.specs.Standing.{IsStanding}
use Rattle.core_cells.specs.Marks.{IsLeastListed}
use Rattle.core_cells.specs.Pool.{Pool}
use Rattle.core_cells.specs.Cells.{Cells, CellsFit, put_node, put_pool}
use Rattle.core_cells.specs.Nodes.{NodeValues}
use Rattle.core_cells.specs.declared.cells.PoolPair.{PoolPair}
use Rattle.factored_core.specs.Changes.{changed, no_changes}
use Rattle.factored_core.specs.Needs.{may_touch_pool, takes_slot}
use Rattle.factored_core.specs.Ready.{IsReady}
use Rattle.factored_core.specs.Vacancies.{IsTaken}
use Rattle.factored_core.specs.declared.new_qubits.Vacancy.{Vacancy}
use Rattle.factored_core.proofs.Changed.{there_is, some_there, changed-none, node_prepared, pool_prepared, node_still}
use Rattle.factored_core.proofs.Loads.{same_load}
use Rattle.factored_core.proofs.Operands.{own_fits}
use Rattle.factored_core.proofs.PoolSteps.{least_number_is, least_free_slot_is, number_left, slot_left}

-- what takes a slot touches the pool
pub slot_from_pool : (k : Kind) → takes_slot k ≡ true → may_touch_pool k ≡ true
unfolding takes_slot may_touch_pool is_making is_measurement
slot_from_pool (Measure after told) e = refl
slot_from_pool Make e = refl
slot_from_pool (Pair r) e = refl
slot_from_pool k e = absurd (clash (sym e))

module _ (shape : Shape) (c : Call) (cs : Cells) (own : Node) (ready : IsReady shape c cs own) where
  -- the own node has room in each state that the cells fit
  pub own_room : (s : Network) (home : ℕ → ℕ) → IsStanding shape s home → CellsFit shape s home cs → AreDistinct own.handles → load_of own < shape.room → load s c.node < shape.room
  own_room s home standing fit distinct room = subst (λ (n : ℕ). n < shape.room) (sym (same_load s c.node own (own_fits shape c cs own ready s home standing fit) shape standing.sound distinct)) room

  pub own_there : IsSome (cs.node c.node)
  own_there = let h = ready.opened.has in some_there (cs.node c.node) h.own h.own_there

  module _ (touch : takes_slot (kind_of c.command.instr) ≡ true) where
    pub pool_there : IsSome cs.pool
    pool_there = let h = ready.opened.has in h.pool (slot_from_pool (kind_of c.command.instr) touch)

    -- the pool's next value was prepared, and then the own node's
    module _ (before one : Cells) (same : before ≡ cs) (q : Pool) (put_one : (w : PoolPair) → before.pool ≡ Some w → one ≡ put_pool before (record w { next = Some q })) where
      pooled : one ≡ changed cs (record no_changes { pool = Some q })
      pooled = pool_prepared cs before one no_changes q (same ∙ changed-none cs ready.opened.unprepared) pool_there put_one

      pub pool_leaves_own : IsSome (one.node c.node)
      pool_leaves_own = node_still cs one (record no_changes { pool = Some q }) c.node pooled own_there

      pub pool_then_own : (two : Cells) (n next : Node) → next ≡ n → ((w : NodeValues) → one.node c.node ≡ Some w → two ≡ put_node one c.node (record w { next = Some next }))
          → two ≡ changed cs (record { nodes = (c.node, n) ∷ []; pool = Some q; slots = [] })
      pool_then_own two n next is put = node_prepared cs one two (record no_changes { pool = Some q }) c.node n pooled own_there
          (λ w e. put w e ∙ ap (λ (m : Node). put_node one c.node (record w { next = Some m })) is)

    -- the pool's value, and a copy of it
    pub pool_is : (w : PoolPair) × (cs.pool ≡ Some w)
    pool_is = there_is cs.pool pool_there

    module _ (p : Pool) (copied : (w : PoolPair) → cs.pool ≡ Some w → p ≡ w.now) where
      pub copy_is : p ≡ (pool_is.0).now
      copy_is = copied (pool_is.0) (pool_is.1)

      pub copy_fits : (s : Network) (home : ℕ → ℕ) → CellsFit shape s home cs → FitsPool shape s home p.numbers p.slots p.pairs
      copy_fits s home fit = subst (λ (q : Pool). FitsPool shape s home q.numbers q.slots q.pairs) (sym copy_is) (fit.pool (pool_is.0) (pool_is.1))

      -- a number and a slot are free
      module _ (room : load_of own < shape.room) (distinct : AreDistinct own.handles) where
        pub number_free : (q : ℕ) × (is_listed p.numbers q ≡ true)
        number_free =
            let t = ready.opened.stands in (
              least_free (t.state).live,
              number_left shape t.state t.home p.numbers p.slots p.pairs (t.standing).sound (copy_fits t.state t.home t.fit) c.node (ready.opened.allowed).node (own_room t.state t.home t.standing t.fit distinct room),
            )

        pub slot_free : (q : ℕ) × (is_listed p.slots q ≡ true)
        slot_free =
            let t = ready.opened.stands in (
              least_free (used_slots (t.state).live t.home),
              slot_left shape t.state t.home p.numbers p.slots p.pairs (t.standing).sound (copy_fits t.state t.home t.fit) c.node (ready.opened.allowed).node (own_room t.state t.home t.standing t.fit distinct room),
            )

      -- what is taken
      module _ (v : Vacancy) (after : Pool) (taken : IsTaken v p after) where
        pub slot_there : IsSome (cs.slot v.slot)
        slot_there =
            let h = ready.opened.has in
            h.free (pool_is.0) v.slot touch (pool_is.1) (subst (λ (q : Pool). IsLeastListed q.slots v.slot) copy_is taken.slot_least)

        module _ (s : Network) (home : ℕ → ℕ) (standing : IsStanding shape s home) (fit : CellsFit shape s home cs) where
          pub vacant_number : v.number ≡ least_free s.live
          vacant_number = least_number_is shape s home p.numbers p.slots p.pairs standing.sound (copy_fits s home fit) v.number (taken.number_least).listed (taken.number_least).least

          pub vacant_slot : v.slot ≡ least_free (used_slots s.live home)
          vacant_slot = least_free_slot_is shape s home p.numbers p.slots p.pairs standing.sound (copy_fits s home fit) v.slot (taken.slot_least).listed (taken.slot_least).least

          pub less_numbers : (q : ℕ) → is_listed after.numbers q ≡ (is_listed p.numbers q && not (q == least_free s.live))
          less_numbers q = taken.numbers q ∙ ap (λ n. is_listed p.numbers q && not (q == n)) vacant_number

          pub less_slots : (t : ℕ) → is_listed after.slots t ≡ (is_listed p.slots t && not (t == least_free (used_slots s.live home)))
          less_slots t = taken.slots t ∙ ap (λ n. is_listed p.slots t && not (t == n)) vacant_slot
