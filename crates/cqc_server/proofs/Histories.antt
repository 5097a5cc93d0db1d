-- The entries of one connection among those of others.
use Rattle.std.proofs.Common.{◌≡◌, ◌≢◌, ℕ, ◌≤◌, length, Bool, true, false, ◌&&◌, List, [], ◌∷◌, ◌++◌, refl, sym, ap, ◌∙◌, arith}
use Rattle.std.specs.Prelude.{All, ◌==◌, if◌then◌else◌}
use Rattle.std.proofs.lemmas.Bool.Decides.{nat_tests}
use Rattle.std.proofs.lemmas.List.Elements.{filter-append, All-head, All-tail}
use Rattle.std.proofs.lemmas.List.{append-nil}
use Rattle.std.proofs.lemmas.List.Sums.{length-filter, count_by-le-length}
use Rattle.network_model.specs.History.{own_entries}
use Rattle.network_model.specs.declared.Call.{Call}
use Rattle.network_model.specs.declared.Entry.{Entry}
use Rattle.session_model.specs.Walk.{Connection}
use Rattle.cqc_server.specs.Replay.{IsCallAt}

abbrev is_own : ℕ → ℕ → Entry → Bool
is_own seat serial e = (e.call.seat == seat) && (e.call.serial == serial)

pub own_append : (seat serial : ℕ) (h k : List Entry) → own_entries seat serial (h ++ k) ≡ own_entries seat serial h ++ own_entries seat serial k
unfolding own_entries
own_append seat serial h k = filter-append (is_own seat serial) h k

own_one : (seat serial : ℕ) (e : Entry) → e.call.seat ≡ seat → e.call.serial ≡ serial → own_entries seat serial (e ∷ []) ≡ e ∷ []
unfolding own_entries
own_one seat serial e a b =
    let mine : is_own seat serial e ≡ true = grind (arith, nat_tests, a, b) in
    ap (λ (t : Bool). if t then e ∷ [] else []) mine

own_none : (seat serial : ℕ) (e : Entry) (es : List Entry) → e.call.seat ≢ seat → own_entries seat serial (e ∷ es) ≡ own_entries seat serial es
unfolding own_entries
own_none seat serial e es a =
    let other : is_own seat serial e ≡ false = grind (arith, nat_tests) in
    ap (λ (t : Bool). if t then e ∷ own_entries seat serial es else own_entries seat serial es) other

-- an entry of the connection's own
pub own_push : (p : Connection) (h : List Entry) (e : Entry) → IsCallAt p e.call → own_entries p.seat p.serial (h ++ e ∷ []) ≡ own_entries p.seat p.serial h ++ e ∷ []
own_push p h e is =
    own_append p.seat p.serial h (e ∷ [])
    ∙ ap (λ x. own_entries p.seat p.serial h ++ x) (own_one p.seat p.serial e (ap (λ (c : Call). c.seat) is) (ap (λ (c : Call). c.serial) is))

no_entries : (seat serial : ℕ) → own_entries seat serial [] ≡ []
unfolding own_entries
no_entries seat serial = refl

others_none : (p q : Connection) (es : List Entry) → (q.seat ≢ p.seat) → All (λ e. IsCallAt q e.call) es → own_entries p.seat p.serial es ≡ []
others_none p q [] apart all = no_entries p.seat p.serial
others_none p q (e ∷ es) apart all =
    let here = All-head (λ (x : Entry). IsCallAt q x.call) e es all in
    own_none p.seat p.serial e es (λ s. apart (sym (ap (λ (c : Call). c.seat) here) ∙ s))
    ∙ others_none p q es apart (All-tail (λ (x : Entry). IsCallAt q x.call) e es all)

-- entries of a connection of another seat
pub own_kept : (p q : Connection) (h es : List Entry) → (q.seat ≢ p.seat) → All (λ e. IsCallAt q e.call) es
    → own_entries p.seat p.serial (h ++ es) ≡ own_entries p.seat p.serial h
own_kept p q h es apart all =
    own_append p.seat p.serial h es ∙ ap (λ x. own_entries p.seat p.serial h ++ x) (others_none p q es apart all) ∙ append-nil (own_entries p.seat p.serial h)

pub own_shorter : (seat serial : ℕ) (h : List Entry) → length (own_entries seat serial h) ≤ length h
unfolding own_entries
own_shorter seat serial h = omega (arith, length-filter (is_own seat serial) h, count_by-le-length (is_own seat serial) h)
