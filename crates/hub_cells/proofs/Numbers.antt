-- The board's cells by their numbers.
use Rattle.std.proofs.Common.{ℕ, ◌≡◌, ◌+◌, ◌-◌, ◌<◌, ◌≤◌, ◌==◌, nat_lt, Bool, true, false, length, option_map, refl, arith}
use Rattle.state_model.proofs.Booleans.{eq_of, ne_of}
use Rattle.network_model.specs.Network.{Shape}
use Rattle.core_cells.specs.Cells.{Cells}
use Rattle.hub_cells.specs.declared.cell.Cell.TheVariants.{Node, Pool, Slot}
use Rattle.hub_cells.specs.CellLaws.{by_node, by_pool, by_slot}
use Rattle.hub_cells.specs.Laid.{cell_at}

-- ---- cells by their numbers
module _ (shape : Shape) (cs : Cells) (n : ℕ) where
  pub at_node : n < length shape.places → cell_at shape cs n ≡ option_map Node (cs.node n)
  unfolding cell_at
  at_node low = by_node n (length shape.places) _ _ _ low

  pub at_pool : n ≡ length shape.places → cell_at shape cs n ≡ option_map Pool cs.pool
  unfolding cell_at
  at_pool is = by_pool n (length shape.places) _ _ _ is

  pub at_slot : length shape.places + 1 ≤ n → cell_at shape cs n ≡ option_map Slot (cs.slot (n - (length shape.places + 1)))
  unfolding cell_at
  at_slot high = by_slot n (length shape.places) _ _ _ high

-- ---- what a number may be
pub data Kind (shape : Shape) (n : ℕ) : Type 0 where
  a_node : n < length shape.places → Kind shape n
  the_pool : n ≡ length shape.places → Kind shape n
  a_slot : length shape.places + 1 ≤ n → Kind shape n

pub kind_of : (shape : Shape) (n : ℕ) → Kind shape n
kind_of shape n = by (nat_lt n (length shape.places)) refl (n == length shape.places) refl
  where
    low : nat_lt n (length shape.places) ≡ true → n < length shape.places
    low e = grind arith

    high : nat_lt n (length shape.places) ≡ false → (n == length shape.places) ≡ false → length shape.places + 1 ≤ n
    high e f = let g = ne_of n (length shape.places) f in grind arith

    by : (b : Bool) → nat_lt n (length shape.places) ≡ b → (c : Bool) → (n == length shape.places) ≡ c → Kind shape n
    by true e c f = a_node (low e)
    by false e true f = the_pool (eq_of n (length shape.places) f)
    by false e false f = a_slot (high e f)
