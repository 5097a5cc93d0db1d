-- A register in which another block takes the place of the second block or of the value.
use Rattle.std.proofs.Common.{◌≡◌, ◌≢◌, ℕ, ◌≤◌, ◌^◌, List, [], ◌∷◌, length, take, sym, ap, subst, ◌∙◌, arith}
use Rattle.state_model.specs.Amplitudes.{AreDistinct}
use Rattle.amplitude_register.specs.States.{IsKept}
use Rattle.amplitude_register.specs.Held.{IsBlock, IsWeighed, IsStage, IsRegister, amplitudes_of}
use Rattle.amplitude_register.specs.declared.block.Block.{Block}
use Rattle.amplitude_register.specs.declared.block.Stage.{Stage}
use Rattle.amplitude_register.specs.declared.register.Register.TheInside.{Inside}
use Rattle.amplitude_register.proofs.Fields.{distinct_none, distinct_one, distinct_two}

pub next_placed : (r : Inside) (s : Stage) (b : Block) → IsRegister r → IsBlock r.limit b → IsStage s b → IsRegister record { limit = r.limit; value = r.value; next = b; stage = s }
next_placed r s b i n k = record { some = i.some; most = i.most; value = i.value; next = n; weighed = i.weighed; kept = i.kept; stage = k }

pub value_placed : (r : Inside) (b : Block) → IsRegister r → IsBlock r.limit b → IsWeighed b → IsKept (amplitudes_of b) → IsRegister record { limit = r.limit; value = b; next = r.next; stage = r.stage }
value_placed r b i v w k = record { some = i.some; most = i.most; value = v; next = i.next; weighed = w; kept = k; stage = i.stage }

-- a block with the head and the room of another
pub same_block : (limit : ℕ) (b c : Block) → c.rows ≡ b.rows → c.count ≡ b.count → c.qubits ≡ b.qubits → length c.entries.items ≡ length b.entries.items → IsBlock limit b → IsBlock limit c
same_block limit b c r n q e h = record {
  rows = r ∙ h.rows ∙ ap (λ (k : ℕ). 2 ^ k) (sym n);
  count = subst (λ (k : ℕ). k ≤ limit) (sym n) h.count;
  room = e ∙ h.room;
  numbers = ap (λ (t : List ℕ). length t) q ∙ h.numbers;
  distinct = subst AreDistinct (sym (ap (λ (k : ℕ). take k c.qubits) n ∙ ap (take b.count) q)) h.distinct;
}

-- blocks of no qubit, of one and of two
pub none_block : (limit : ℕ) (b : Block) → b.rows ≡ 1 → b.count ≡ 0 → length b.entries.items ≡ 2 ^ limit → length b.qubits ≡ 12 → IsBlock limit b
none_block limit b r n e q = record { rows = r ∙ ap (λ (k : ℕ). 2 ^ k) (sym n); count = omega (arith, n); room = e; numbers = q; distinct = subst AreDistinct (sym (ap (λ (k : ℕ). take k b.qubits) n)) distinct_none }

pub one_block : (limit q : ℕ) (b : Block) → 1 ≤ limit → b.rows ≡ 2 → b.count ≡ 1 → length b.entries.items ≡ 2 ^ limit → length b.qubits ≡ 12 → take 1 b.qubits ≡ q ∷ [] → IsBlock limit b
one_block limit q b some r n e m t = record { rows = r ∙ ap (λ (k : ℕ). 2 ^ k) (sym n); count = omega (arith, n, some); room = e; numbers = m; distinct = subst AreDistinct (sym (ap (λ (k : ℕ). take k b.qubits) n ∙ t)) (distinct_one q) }

pub two_block : (limit p q : ℕ) (b : Block) → p ≢ q → 2 ≤ limit → b.rows ≡ 4 → b.count ≡ 2 → length b.entries.items ≡ 2 ^ limit → length b.qubits ≡ 12 → take 2 b.qubits ≡ p ∷ q ∷ [] → IsBlock limit b
two_block limit p q b apart some r n e m t = record { rows = r ∙ ap (λ (k : ℕ). 2 ^ k) (sym n); count = omega (arith, n, some); room = e; numbers = m; distinct = subst AreDistinct (sym (ap (λ (k : ℕ). take k b.qubits) n ∙ t)) (distinct_two p q apart) }
