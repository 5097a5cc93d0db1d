-- A board that has the cells that a call's step may touch.
use Rattle.std.proofs.Common.{ℕ, ◌≡◌, ◌<◌, true, List, Option, Some, IsSome, option_map, refl, sym, ap, subst, ◌∙◌, arith}
use mathlib.Core.Logic.{dite}
use native.Mathlib.Decide.{dec_le}
use Rattle.state_model.proofs.Booleans.{clash}
use Rattle.network_model.specs.Network.{Shape}
use Rattle.network_model.specs.declared.Call.{Call}
use Rattle.virtual_node.specs.Node.{Node}
use Rattle.core_cells.specs.Marks.{IsLeastListed}
use Rattle.core_cells.specs.Pool.{Pool}
use Rattle.core_cells.specs.Cells.{Cells, HasHome}
use Rattle.core_cells.specs.Nodes.{NodeValues}
use Rattle.core_cells.specs.declared.cells.PoolPair.{PoolPair}
use Rattle.factored_core.specs.Needs.{needs_of}
use Rattle.factored_core.specs.Ready.{HasCells}
use Rattle.factored_core.specs.declared.needs.Needs.{Needs}
use Rattle.factored_core.proofs.Changed.{there}

pub ready_has : (shape : Shape) (c : Call) (cs : Cells) (own : Node) (needs : Needs) → option_map (λ (w : NodeValues). w.now) (cs.node c.node) ≡ Some own → needs ≡ needs_of shape c own
    → ((n : ℕ) → needs.other ≡ Some n → IsSome (cs.node n)) → (needs.pool ≡ true → IsSome cs.pool)
    → (needs.slot ≡ true → (w : PoolPair) (t : ℕ) → cs.pool ≡ Some w → IsLeastListed w.now.slots t → IsSome (cs.slot t))
    → ((q : ℕ) → needs.first ≡ Some q → HasHome cs q) → ((q : ℕ) → needs.second ≡ Some q → HasHome cs q) → (has : HasCells shape c cs) × (has.own.now ≡ own)
ready_has shape c cs own needs at is other pool free first second =
    let w = there (λ (w : NodeValues). w.now) (cs.node c.node) own at in
    let same : needs ≡ needs_of shape c w.0.now = is ∙ ap (needs_of shape c) (sym (w.1.1)) in (
      record {
        own = w.0;
        own_there = w.1.0;
        other = λ n e. other n (ap (λ (x : Needs). x.other) same ∙ e);
        pool = λ e. pool (ap (λ (x : Needs). x.pool) same ∙ e);
        first = λ q e. first q (ap (λ (x : Needs). x.first) same ∙ e);
        second = λ q e. second q (ap (λ (x : Needs). x.second) same ∙ e);
        free = λ v t e at least. free (ap (λ (x : Needs). x.slot) same ∙ e) v t at least;
      },
      w.1.1,
    )

-- the pool of a value that was lent
pub pool_there : (o : Option PoolPair) (p : Pool) → Some p ≡ option_map (λ (w : PoolPair). w.now) o → IsSome o
pool_there o p at = let w = there (λ (w : PoolPair). w.now) o p (sym at) in subst (λ (x : Option PoolPair). IsSome x) (sym (w.1.0)) refl

pub pool_is : (o : Option PoolPair) (p : Pool) (w : PoolPair) → Some p ≡ option_map (λ (v : PoolPair). v.now) o → o ≡ Some w → p ≡ w.now
pool_is o p w at is = let same : Some p ≡ Some w.now = at ∙ ap (option_map (λ (v : PoolPair). v.now)) is in cc (same)

-- there is one least number
least_not_less : (ns : List ℕ) (a b : ℕ) → IsLeastListed ns a → IsLeastListed ns b → a < b → ⊥
least_not_less ns a b one two lt = clash (sym one.listed ∙ two.least a lt)

pub least_is_one : (ns : List ℕ) (a b : ℕ) → IsLeastListed ns a → IsLeastListed ns b → a ≡ b
least_is_one ns a b one two = dite (dec_le a b)
    (λ le. dite (dec_le b a) (λ ge. omega arith) (λ not. absurd (least_not_less ns a b one two (omega (arith, not)))))
    (λ not. absurd (least_not_less ns b a two one (omega (arith, not))))
