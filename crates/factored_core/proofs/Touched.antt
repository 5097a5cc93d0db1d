-- The nodes that an entry touches are the own one and the other node of a transfer, which is looked at unless it is refused before.
use Rattle.std.proofs.Common.{ℕ, ◌≡◌, ◌==◌, Bool, true, false, cond, not, ◌&&◌, ◌||◌, List, [], ◌∷◌, Option, Some, None, IsSome, is_some, refl, sym, ap, ◌∙◌}
use Rattle.state_model.proofs.Booleans.{eq_of, or_false}
use Rattle.cqc_model.specs.declared.Fault.{Fault}
use Rattle.cqc_model.specs.declared.Remote.{Remote}
use Rattle.network_model.specs.Network.{Shape}
use Rattle.network_model.specs.Kinds.{kind_of, remote_of}
use Rattle.network_model.specs.Step.{holds_of, node_at}
use Rattle.network_model.specs.History.{is_error}
use Rattle.network_model.specs.Factored.{touches_node, is_remote_refusal}
use Rattle.network_model.specs.declared.Call.{Call}
use Rattle.network_model.specs.declared.CoreReply.{CoreReply}
use Rattle.network_model.specs.declared.CoreReply.TheVariants as reply
use Rattle.virtual_node.specs.Node.{Node}
use Rattle.core_cells.specs.Cells.{Cells, put_node, IsUnprepared}
use Rattle.core_cells.specs.Nodes.{NodeValues}
use Rattle.factored_core.specs.Changes.{Changes, no_changes, changed, change_at, AreNamed}
use Rattle.factored_core.specs.Needs.{other_than, other_at, other_of}
use Rattle.factored_core.specs.Replies.{in_nodes}
use Rattle.factored_core.specs.Vacancies.{touched_by}
use Rattle.factored_core.proofs.Changed.{changed-none, node_prepared}
use Rattle.factored_core.proofs.ChangeLists.{change_one, change_cons, number_one}
use Rattle.core_cells.proofs.Presence.{maybe_node, no_node_is_pool, no_node_is_slot}
use Rattle.factored_core.proofs.TwoSteps.{number_two}

once : (a : Bool) → (a || a) ≡ (a || false)
once true = refl
once false = refl

all : (a : Bool) → (a && true) ≡ a
all true = refl
all false = refl

none : (a : Bool) → (a && false) ≡ false
none true = refl
none false = refl

-- ---- the remote node beside the own one is the other node
module _ (own m : ℕ) where
  beside : (n : ℕ) (t : Bool) → (n == own) ≡ t → ((own == m) || (n == m)) ≡ ((own == m) || holds_of (cond t None (Some n)) (λ k. k == m))
  beside n true e = ap (λ k. (own == m) || (k == m)) (eq_of n own e) ∙ once (own == m)
  beside n false e = refl

  beside_than : (o : Option ℕ) → ((own == m) || holds_of o (λ n. n == m)) ≡ ((own == m) || holds_of (other_than own o) (λ n. n == m))
  unfolding other_than
  beside_than None = refl
  beside_than (Some n) = beside n (n == own) refl

  beside_at : (shape : Shape) (o : Option Remote) → ((own == m) || holds_of o (λ r. holds_of (node_at shape r) (λ n. n == m))) ≡ ((own == m) || holds_of (other_at shape own o) (λ n. n == m))
  unfolding other_at
  beside_at shape None = refl
  beside_at shape (Some r) = beside_than (node_at shape r)

module _ (shape : Shape) (c : Call) (m : ℕ) where
  abbrev at_remote : Bool
  at_remote = holds_of (remote_of (kind_of c.command.instr)) (λ r. holds_of (node_at shape r) (λ n. n == m))

  other_touched : ((c.node == m) || at_remote) ≡ ((c.node == m) || holds_of (other_of shape c) (λ n. n == m))
  unfolding other_of
  other_touched = beside_at c.node m shape (remote_of (kind_of c.command.instr))

  -- an entry that isn't refused touches both
  pub done_touches : (w : Option ℕ) (r : CoreReply) → is_error r ≡ false → touches_node shape (record { call = c; word = w; reply = r }) m ≡ ((c.node == m) || holds_of (other_of shape c) (λ n. n == m))
  unfolding touches_node
  done_touches w r done =
      ap (λ b. (c.node == m) || at_remote && (not b || is_remote_refusal r)) done
      ∙ ap (λ b. (c.node == m) || b) (all at_remote)
      ∙ other_touched

  -- a refused one touches the other where its fault tells so
  pub refused_touches : (w : Option ℕ) (f : Fault) → touches_node shape (record { call = c; word = w; reply = reply.Error f }) m ≡ ((c.node == m) || holds_of (touched_by (other_of shape c) f) (λ n. n == m))
  unfolding touches_node is_error
  refused_touches w f = by (is_remote_refusal (reply.Error f))
    where
      by : (b : Bool) → ((c.node == m) || at_remote && b) ≡ ((c.node == m) || holds_of (cond b (other_of shape c) None) (λ n. n == m))
      by true = ap (λ b. (c.node == m) || b) (all at_remote) ∙ other_touched
      by false = ap (λ b. (c.node == m) || b) (none at_remote)

-- ---- next values of nodes
-- the own node's value, and that of another node, if there is one
abbrev pub with_other : ℕ → Node → Option ℕ → Node → List (ℕ × Node)
with_other node own None next = (node, own) ∷ []
with_other node own (Some n) next = (n, next) ∷ (node, own) ∷ []

abbrev pub of_nodes : ℕ → Node → Option ℕ → Node → Changes
of_nodes node own o next = record { nodes = with_other node own o next; pool = None; slots = [] }

pub numbers_of : (node : ℕ) (own : Node) (o : Option ℕ) (next : Node) (m : ℕ) → ((node == m) || holds_of o (λ n. n == m)) ≡ is_some (change_at (with_other node own o next) m)
numbers_of node own None next m = or_false (node == m) ∙ sym (number_one node own m)
numbers_of node own (Some n) next m = sym (number_two node n own next m)

-- what holds of each of them
pub nodes_are : (P : ℕ → Node → Type 0) (node : ℕ) (own : Node) (o : Option ℕ) (next : Node) → P node own → ((n : ℕ) → o ≡ Some n → P n next)
    → (m : ℕ) (v : Node) → change_at (with_other node own o next) m ≡ Some v → P m v
nodes_are P node own None next here there = change_one P node own here
nodes_are P node own (Some n) next here there = change_cons P n next ((node, own) ∷ []) (there n refl) (change_one P node own here)

pub named_in_nodes : (c : Call) (own : Node) (r : CoreReply) (o : Option ℕ) (next : Node) → AreNamed (in_nodes c r o) (of_nodes c.node own o next)
named_in_nodes c own r o next = record {
  nodes = λ m. ap (λ b. (c.node == m) || b) (maybe_node o m) ∙ numbers_of c.node own o next m;
  pool = ap (λ b. b || false) (no_node_is_pool o);
  slots = λ t. ap (λ b. b || false) (no_node_is_slot o t);
}

-- ---- both are prepared on a board where nothing is
module _ (cs before mid new : Cells) (unprepared : IsUnprepared cs) (same : before ≡ cs) (node : ℕ) (own : Node) (own_there : IsSome (cs.node node))
    (put : (w : NodeValues) → before.node node ≡ Some w → mid ≡ put_node before node (record w { next = Some own })) where
  pub one_node : mid ≡ changed cs (of_nodes node own None own)
  one_node = node_prepared cs before mid no_changes node own (same ∙ changed-none cs unprepared) own_there put

  pub two_nodes : (n : ℕ) (next : Node) → IsSome (cs.node n) → ((w : NodeValues) → mid.node n ≡ Some w → new ≡ put_node mid n (record w { next = Some next })) → new ≡ changed cs (of_nodes node own (Some n) next)
  two_nodes n next there again = node_prepared cs mid new (of_nodes node own None own) n next one_node there again
