-- What a receipt gives and leaves, from where the first arrival stands; and what it does to the maps of a node.
use Rattle.std.proofs.Common.{◌≡◌, ℕ, ◌==◌, true, false, cond, ◌&&◌, ◌∷◌, map, None, Some, is_some, filter, option_map, position, slice_get, refl, sym, ap, ◌∙◌}
use Rattle.network_model.specs.Network.{line_eq}
use Rattle.network_model.specs.Step.{without_first}
use Rattle.network_model.specs.declared.Line.{Line}
use Rattle.network_model.specs.declared.Line.TheVariants.{Pair}
use Rattle.network_model.proofs.Counting.{filter_head}
use Rattle.state_model.proofs.Booleans.{both_true}
use Rattle.qubit_handles.specs.Handle.{is_named}
use Rattle.qubit_handles.proofs.Firsts.{removed_first, found_none, found_there, filter-without_first, filter-without_other}
use Rattle.qubit_handles.proofs.HandleLemmas.{least_is_free}
use Rattle.virtual_node.specs.Node.{Node, node_of, is_waiting, held_map, arrived_map, told_of, with_handle, without_arrival}
use Rattle.virtual_node.specs.declared.arrival.Arrival.{Arrival}
use Rattle.virtual_node.proofs.NodeLemmas.{held_map-with_handle, line_of_eq, apart_queues}
use Rattle.epr_transfer.specs.Transfer.{handle_of, first_waiting, next_id, taken_by, with_received, received_by}

-- ---- where nothing waits
pub taken_by-none : (n : Node) (app : ℕ) (line : Line) → position (is_waiting app line) n.arrivals ≡ None → None ≡ taken_by n app line
taken_by-none n app line none = sym (ap (option_map (λ a. record { id = next_id n app; info = Arrival.info a })) (found_none (is_waiting app line) n.arrivals none))

pub received_by-none : (n : Node) (app : ℕ) (line : Line) → position (is_waiting app line) n.arrivals ≡ None → n ≡ received_by n app line
received_by-none n app line none = sym (ap (with_received n app line) (found_none (is_waiting app line) n.arrivals none))

-- ---- where the first arrival stands at a place
module _ (n : Node) (app : ℕ) (line : Line) (place : ℕ) (a : Arrival) (first : position (is_waiting app line) n.arrivals ≡ Some place) (there : slice_get n.arrivals place ≡ Some a) where
  found : first_waiting n app line ≡ Some a
  found = found_there (is_waiting app line) n.arrivals place a first there

  pub taken_by-some : (id : ℕ) → id ≡ next_id n app → Some (record { id = id; info = a.info }) ≡ taken_by n app line
  taken_by-some id e = ap (λ i. Some (record { id = i; info = a.info })) e ∙ sym (ap (option_map (λ b. record { id = next_id n app; info = Arrival.info b })) found)

  pub received_by-some : (m : Node) (id : ℕ) → id ≡ next_id n app → m ≡ without_arrival n place → with_handle m (handle_of app id a.number) ≡ received_by n app line
  received_by-some m id e is =
      ap (λ k. with_handle k (handle_of app id a.number)) is
      ∙ ap (λ i. with_handle (without_arrival n place) (handle_of app i a.number)) e
      ∙ ap (λ xs. with_handle (node_of n.handles xs) (handle_of app (next_id n app) a.number)) (removed_first (is_waiting app line) n.arrivals place first)
      ∙ sym (ap (with_received n app line) found)

  pub informed_by_line : is_some a.info ≡ line_eq a.line Pair → is_some a.info ≡ line_eq line Pair
  informed_by_line e = e ∙ ap (λ l. line_eq l Pair) (line_of_eq a.line line ((both_true (a.app == app) (line_eq a.line line) passes).1))
    where
      passes : is_waiting app line a ≡ true
      passes = filter_head (is_waiting app line) n.arrivals a (filter (is_waiting app line) (without_first (is_waiting app line) n.arrivals)) (filter-without_first (is_waiting app line) n.arrivals a found)

-- ---- the maps after a receipt
module _ (n : Node) (app : ℕ) (line : Line) (a : Arrival) (found : first_waiting n app line ≡ Some a) where
  -- the received number is held under the least id, and the other handles are as before
  pub held_map-received : (other id : ℕ) → held_map (received_by n app line) other id ≡ cond (is_named other id (handle_of app (next_id n app) a.number)) (Some a.number) (held_map n other id)
  held_map-received other id = ap (λ o. held_map (with_received n app line o) other id) found
      ∙ held_map-with_handle (node_of n.handles (without_first (is_waiting app line) n.arrivals)) (handle_of app (next_id n app) a.number) other id (least_is_free n.handles app (next_id n app) refl)

  -- the first of the queue has gone
  pub arrived_map-received : arrived_map n app line ≡ told_of a ∷ arrived_map (received_by n app line) app line
  arrived_map-received = ap (map told_of) (filter-without_first (is_waiting app line) n.arrivals a found) ∙ sym (ap (λ o. told_of a ∷ arrived_map (with_received n app line o) app line) found)

  -- the other queues are as before
  pub arrived_map-received_others : (other : ℕ) (beside : Line) → ((other == app) && line_eq beside line) ≡ false → arrived_map (received_by n app line) other beside ≡ arrived_map n other beside
  arrived_map-received_others other beside apart = ap (λ o. arrived_map (with_received n app line o) other beside) found
      ∙ ap (map told_of) (filter-without_other (is_waiting app line) (is_waiting other beside) (λ b here. apart_queues app line other beside apart b here) n.arrivals)
