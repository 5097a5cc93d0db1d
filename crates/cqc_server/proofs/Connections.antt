-- The entries of one connection after the other, among those of their seat.
-- Main results: `spoken_ours`, `own_same`, `own_first`.
use Rattle.std.proofs.Common.{◌≡◌, ◌≢◌, ℕ, Bool, true, false, ◌&&◌, ◌==◌, cond, List, [], ◌∷◌, ◌++◌, refl, sym, ap, subst, ◌∙◌, arith}
use Rattle.std.specs.Prelude.{All, filter, if◌then◌else◌}
use Rattle.std.proofs.lemmas.Bool.Decides.{nat_tests}
use Rattle.std.proofs.lemmas.List.{append-nil}
use Rattle.std.proofs.lemmas.List.Elements.{All-nil, All-cons, All-head, All-tail, All-weaker}
use Rattle.cqc_model.specs.declared.Command.{Command}
use Rattle.cqc_model.specs.Plan.{Message, Plan, fixed, steps, plan_of, messages}
use Rattle.network_model.specs.History.{is_error, own_entries, seat_entries}
use Rattle.network_model.specs.declared.Call.{Call}
use Rattle.network_model.specs.declared.CoreReply.{CoreReply}
use Rattle.network_model.specs.declared.Entry.{Entry}
use Rattle.session_model.specs.declared.Ending.{Ending}
use Rattle.session_model.specs.Speaks.{Setting, Speaks, calls_of, replies_of, due_list}
use Rattle.session_model.specs.Walk.{Connection, Said, call_of, run_steps, run_plan, walk}
use Rattle.cqc_server.specs.Replay.{IsCallAt}
use Rattle.cqc_server.proofs.Histories.{own_append}

-- ---- a connection asks its own calls
steps_ours : (p : Connection) (app : ℕ) (list : List Command) (notify : Bool) (next : List CoreReply → Said) (rs : List CoreReply)
    → ((ss : List CoreReply) → All (IsCallAt p) (next ss).asked) → All (IsCallAt p) (run_steps p app list notify next rs).asked
steps_ours p app [] notify next rs h = h rs
steps_ours p app (c ∷ cs) notify next [] h = All-cons (IsCallAt p) (call_of p app c) [] refl (All-nil (IsCallAt p))
steps_ours p app (c ∷ cs) notify next (r ∷ rs) h =
    All-cons (IsCallAt p) (call_of p app c) (if is_error r then next rs else run_steps p app cs notify next rs).asked refl
    (by (is_error r) (steps_ours p app cs notify next rs h))
  where
    by : (b : Bool) → All (IsCallAt p) (run_steps p app cs notify next rs).asked → All (IsCallAt p) (if b then next rs else run_steps p app cs notify next rs).asked
    by true on = h rs
    by false on = on

plan_ours : (p : Connection) (app : ℕ) (plan : Plan) (next : List CoreReply → Said) (rs : List CoreReply)
    → ((ss : List CoreReply) → All (IsCallAt p) (next ss).asked) → All (IsCallAt p) (run_plan p app plan next rs).asked
plan_ours p app (fixed reply) next rs h = h rs
plan_ours p app (steps list notify) next rs h = steps_ours p app list notify next rs h

walk_ours : (p : Connection) (ms : List Message) (rs : List CoreReply) → All (IsCallAt p) (walk p ms rs).asked
walk_ours p [] rs = All-nil (IsCallAt p)
walk_ours p (m ∷ ms) rs = plan_ours p m.head.app (plan_of m) (walk p ms) rs (λ ss. walk_ours p ms ss)

entries_ours : (p : Connection) (es : List Entry) (others : List Call) → All (IsCallAt p) (calls_of es ++ others) → All (λ e. IsCallAt p e.call) es
entries_ours p [] others h = All-nil (λ (e : Entry). IsCallAt p e.call)
entries_ours p (e ∷ es) others h =
    All-cons (λ (x : Entry). IsCallAt p x.call) e es (All-head (IsCallAt p) e.call (calls_of es ++ others) h)
    (entries_ours p es others (All-tail (IsCallAt p) e.call (calls_of es ++ others) h))

-- the entries of a connection are calls of it
pub spoken_ours : (s : Setting) (b : List ℕ) (es : List Entry) (out : List ℕ) (ending : Ending) → Speaks s b es out ending → All (λ e. IsCallAt s.connection e.call) es
spoken_ours s b es out ending spoken =
    let said = walk s.connection (messages b) (replies_of es) in
    entries_ours s.connection es (due_list said.due)
    (subst (λ (calls : List Call). All (IsCallAt s.connection) calls) spoken.asked (walk_ours s.connection (messages b) (replies_of es)))

-- ---- the entries of a connection among those of its seat
filter_twice : {X : Type 0} (p q : X → Bool) (xs : List X) → filter (λ x. p x && q x) (filter p xs) ≡ filter (λ x. p x && q x) xs
filter_twice p q [] = refl
filter_twice {X} p q (x ∷ xs) = by (p x) refl (filter_twice p q xs)
  where
    by : (t : Bool) → p x ≡ t → filter (λ y. p y && q y) (filter p xs) ≡ filter (λ y. p y && q y) xs
        → filter (λ y. p y && q y) (filter p (x ∷ xs)) ≡ filter (λ y. p y && q y) (x ∷ xs)
    by true e rest =
        ap (λ (t : Bool). filter (λ y. p y && q y) (cond t (x ∷ filter p xs) (filter p xs))) e
        ∙ ap (λ (ys : List X). cond (p x && q x) (x ∷ ys) ys) rest
    by false e rest =
        ap (λ (t : Bool). filter (λ y. p y && q y) (cond t (x ∷ filter p xs) (filter p xs))) e
        ∙ rest
        ∙ ap (λ (t : Bool). cond (t && q x) (x ∷ filter (λ y. p y && q y) xs) (filter (λ y. p y && q y) xs)) (sym e)

own_of_seat : (seat serial : ℕ) (h : List Entry) → own_entries seat serial (seat_entries seat h) ≡ own_entries seat serial h
unfolding own_entries seat_entries
own_of_seat seat serial h = filter_twice (λ (e : Entry). e.call.seat == seat) (λ (e : Entry). e.call.serial == serial) h

-- entries of other serials
pub none_of_serial : (seat serial : ℕ) (es : List Entry) → All (λ e. e.call.serial ≢ serial) es → own_entries seat serial es ≡ []
unfolding own_entries
none_of_serial seat serial [] h = refl
none_of_serial seat serial (e ∷ es) h =
    let apart : e.call.serial ≢ serial = All-head (λ (x : Entry). x.call.serial ≢ serial) e es h in
    let other : ((e.call.seat == seat) && (e.call.serial == serial)) ≡ false = grind (arith, nat_tests) in
    ap (λ (t : Bool). if t then e ∷ own_entries seat serial es else own_entries seat serial es) other
    ∙ none_of_serial seat serial es (All-tail (λ (x : Entry). x.call.serial ≢ serial) e es h)

-- entries of the connection
own_all : (p : Connection) (es : List Entry) → All (λ e. IsCallAt p e.call) es → own_entries p.seat p.serial es ≡ es
unfolding own_entries
own_all p [] h = refl
own_all p (e ∷ es) h =
    let here = All-head (λ (x : Entry). IsCallAt p x.call) e es h in
    let seat : e.call.seat ≡ p.seat = ap (λ (c : Call). c.seat) here in
    let serial : e.call.serial ≡ p.serial = ap (λ (c : Call). c.serial) here in
    let mine : ((e.call.seat == p.seat) && (e.call.serial == p.serial)) ≡ true = grind (arith, nat_tests, seat, serial) in
    ap (λ (t : Bool). if t then e ∷ own_entries p.seat p.serial es else own_entries p.seat p.serial es) mine
    ∙ ap (λ (x : List Entry). e ∷ x) (own_all p es (All-tail (λ (x : Entry). IsCallAt p x.call) e es h))

others_apart : (p : Connection) (serial : ℕ) (es : List Entry) → p.serial ≢ serial → All (λ e. IsCallAt p e.call) es → own_entries p.seat serial es ≡ []
others_apart p serial es apart h =
    none_of_serial p.seat serial es (All-weaker (λ (e : Entry). IsCallAt p e.call) (λ (e : Entry). e.call.serial ≢ serial)
    (λ e is same. apart (sym (ap (λ (c : Call). c.serial) is) ∙ same)) es h)

own_grown : (seat serial : ℕ) (old new more : List Entry) → seat_entries seat new ≡ seat_entries seat old ++ more
    → own_entries seat serial new ≡ own_entries seat serial old ++ own_entries seat serial more
own_grown seat serial old new more grown =
    sym (own_of_seat seat serial new) ∙ ap (own_entries seat serial) grown ∙ own_append seat serial (seat_entries seat old) more
    ∙ ap (λ (es : List Entry). es ++ own_entries seat serial more) (own_of_seat seat serial old)

-- another connection of the seat went on
pub own_same : (p : Connection) (serial : ℕ) (old new more : List Entry) → seat_entries p.seat new ≡ seat_entries p.seat old ++ more → p.serial ≢ serial
    → All (λ e. IsCallAt p e.call) more → own_entries p.seat serial new ≡ own_entries p.seat serial old
own_same p serial old new more grown apart ours =
    own_grown p.seat serial old new more grown ∙ ap (λ (es : List Entry). own_entries p.seat serial old ++ es) (others_apart p serial more apart ours)
    ∙ append-nil (own_entries p.seat serial old)

-- the connection made its first entries
pub own_first : (p : Connection) (old new more : List Entry) → seat_entries p.seat new ≡ seat_entries p.seat old ++ more
    → All (λ e. e.call.serial ≢ p.serial) (seat_entries p.seat old) → All (λ e. IsCallAt p e.call) more → own_entries p.seat p.serial new ≡ more
own_first p old new more grown none ours =
    own_grown p.seat p.serial old new more grown
    ∙ ap (λ (es : List Entry). es ++ own_entries p.seat p.serial more)
    (sym (own_of_seat p.seat p.serial old) ∙ none_of_serial p.seat p.serial (seat_entries p.seat old) none)
    ∙ own_all p more ours
