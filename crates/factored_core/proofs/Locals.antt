-- Instructions that concern no other node.
use Rattle.std.proofs.Common.{ℕ, ◌≡◌, ◌==◌, ◌&&◌, ◌||◌, [], ◌∷◌, Option, None, is_some, not, sym, ap, ◌∙◌}
use Rattle.state_model.proofs.Booleans.{or_false}
use Rattle.network_model.specs.Network.{Shape}
use Rattle.network_model.specs.Kinds.{kind_of, remote_of}
use Rattle.network_model.specs.Step.{holds_of, node_at}
use Rattle.network_model.specs.History.{is_error}
use Rattle.network_model.specs.Factored.{touches_node, is_remote_refusal}
use Rattle.network_model.specs.declared.Call.{Call}
use Rattle.network_model.specs.declared.CoreReply.{CoreReply}
use Rattle.virtual_node.specs.Node.{Node}
use Rattle.factored_core.specs.Changes.{change_at}
use Rattle.factored_core.proofs.ChangeLists.{number_one}

-- an entry without another node touches the own one alone
pub own_touched : (shape : Shape) (c : Call) (own : Node) (w : Option ℕ) (r : CoreReply) → remote_of (kind_of c.command.instr) ≡ None → (m : ℕ)
    → touches_node shape (record { call = c; word = w; reply = r }) m ≡ is_some (change_at ((c.node, own) ∷ []) m)
unfolding touches_node
own_touched shape c own w r none m =
    ap (λ o. (c.node == m) || holds_of o (λ p. holds_of (node_at shape p) (λ n. n == m)) && (not (is_error r) || is_remote_refusal r)) none
    ∙ or_false (c.node == m) ∙ sym (number_one c.node own m)
