-- Lists of new cells, as the cells of a board: `opened` says that all of a shape are there, that nothing is prepared
-- and that they fit the opening; and a list that is filled up from another of the same length.
use Rattle.std.proofs.Common.{◌≡◌, ℕ, zero, suc, ◌*◌, ◌<◌, ◌≤◌, List, length, replicate, drop, Some, None, IsSome, slice_get, slice_set, refl, sym, ap, subst, ◌∙◌, arith}
use Rattle.std.proofs.lemmas.List.{length-replicate, take-append-le, take_all}
use Rattle.std.proofs.lemmas.Option.{slice_get_past}
use Rattle.std.proofs.Math.ListN.{length-set}
use Rattle.std.specs.List.{refill}
use Rattle.state_model.specs.Row.{is_listed}
use Rattle.network_model.specs.Network.{Shape, opening, held_number, queue}
use Rattle.network_model.specs.Factored.{FitsNode, FitsPool, FitsSlot}
use Rattle.virtual_node.specs.Node.{empty_node, held_map, arrived_map}
use Rattle.core_cells.specs.Cells.{empty_slot, register_of}
use Rattle.core_cells.specs.Owned.{cells_of, IsOpened}
use Rattle.core_cells.specs.Nodes.{NodeValues}
use Rattle.core_cells.specs.declared.cells.PoolPair.{PoolPair}
use Rattle.core_cells.specs.declared.cells.SlotCell.{SlotCell}
use Rattle.core_cells.proofs.CellLemmas.{some_value}

-- ---- a list that is filled up
pub filled_twice : {X : Type 0} (xs : List X) (i j : ℕ) (x y : X) → refill (length xs) xs (slice_set (slice_set xs i x) j y) ≡ slice_set (slice_set xs i x) j y
filled_twice xs i j x y =
    let ws = slice_set (slice_set xs i x) j y in
    let long : length ws ≡ length xs = length-set (slice_set xs i x) j y ∙ length-set xs i x in
    let le : length xs ≤ length ws = omega arith in
    let ge : length ws ≤ length xs = omega arith in
    take-append-le (length xs) ws (drop (length ws) xs) le ∙ take_all (length xs) ws ge

-- ---- elements of a list of one value
each_is : {A : Type 0} (n m : ℕ) (x w : A) → slice_get (replicate n x) m ≡ Some w → x ≡ w
each_is zero m x w is = cc
each_is (suc n) zero x w is = some_value w x is
each_is (suc n) (suc m) x w is = each_is n m x w is

is_there : {A : Type 0} (n m : ℕ) (x : A) → m < n → IsSome (slice_get (replicate n x) m)
is_there zero m x less = absurd (omega arith)
is_there (suc n) zero x less = refl
is_there (suc n) (suc m) x less = is_there n m x (omega arith)

is_absent : {A : Type 0} (n m : ℕ) (x : A) → n ≤ m → slice_get (replicate n x) m ≡ None
is_absent n m x past = let long = length-replicate n x in slice_get_past (replicate n x) m (omega arith)

-- ---- new cells fit the opening
pub new_node_fits : (m : ℕ) → FitsNode opening m (held_map empty_node) (arrived_map empty_node)
unfolding opening held_number queue
new_node_fits m = record { handles = λ app id. refl; queues = λ app line. refl }

pub new_slot_fits : (shape : Shape) (limit t : ℕ) → limit ≡ shape.limit → FitsSlot shape opening (λ q. 0) t (register_of (empty_slot limit).register)
unfolding opening is_listed
new_slot_fits shape limit t is = record { limit = is; homes = λ q. refl; group = λ p q h. cc; part = λ p h. cc }

abbrev new_node : NodeValues
new_node = record { now = empty_node; next = None }

pub opened : (shape : Shape) (pool : PoolPair) (n k limit : ℕ) → n ≡ length shape.places → k ≡ length shape.places * shape.room → limit ≡ shape.limit → pool.next ≡ None
    → FitsPool shape opening (λ q. 0) pool.now.numbers pool.now.slots pool.now.pairs
    → IsOpened shape (cells_of record { nodes = replicate n new_node; pool = pool; slots = replicate k (empty_slot limit) })
opened shape pool n k limit is_n is_k is_limit none fits = record {
  all = record {
    nodes = λ m less. is_there n m new_node (subst (λ (b : ℕ). m < b) (sym is_n) less);
    pool = refl;
    slots = λ t less. is_there k t (empty_slot limit) (subst (λ (b : ℕ). t < b) (sym is_k) less);
  };
  unprepared = record {
    node = λ m w is. sym (ap (λ (v : NodeValues). v.next) (each_is n m new_node w is));
    pool = λ w is. sym (ap (λ (v : PoolPair). v.next) (some_value w pool is)) ∙ none;
    slot = λ t w is. sym (ap (λ (v : SlotCell). v.register.next) (each_is k t (empty_slot limit) w is));
  };
  fits = record {
    nodes = λ m w is. subst (λ (v : NodeValues). FitsNode opening m (held_map v.now) (arrived_map v.now)) (each_is n m new_node w is) (new_node_fits m);
    pool = λ w is. subst (λ (v : PoolPair). FitsPool shape opening (λ q. 0) v.now.numbers v.now.slots v.now.pairs) (some_value w pool is) fits;
    slots = λ t w is. subst (λ (v : SlotCell). FitsSlot shape opening (λ q. 0) t (register_of v.register)) (each_is k t (empty_slot limit) w is) (new_slot_fits shape limit t is_limit);
  };
  no_more_nodes = λ m past. is_absent n m new_node (subst (λ (b : ℕ). b ≤ m) (sym is_n) past);
  no_more_slots = λ t past. is_absent k t (empty_slot limit) (subst (λ (b : ℕ). b ≤ t) (sym is_k) past);
}
