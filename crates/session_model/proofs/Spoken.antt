-- A connection that alone speaks takes turns: each of its entries is of the call that was due.
use Rattle.std.proofs.Common.{◌≡◌, ◌⊎◌, inl, inr, ℕ, suc, ◌+◌, ◌≤◌, Bool, true, false, ◌&&◌, List, [], ◌∷◌, ◌++◌, length, Option, None, Some, refl, sym, ap, subst, ◌∙◌, arith, length-append}
use Rattle.std.specs.Prelude.{replicate, if◌then◌else◌, is_some, IfSome, nat_lt, ◌==◌}
use Rattle.std.proofs.lemmas.List.{append-nil, append_assoc, map-append, length-map}
use Rattle.std.proofs.lemmas.List.Sums.{sum_by-append}
use Rattle.std.proofs.lemmas.Bool.Decides.{nat_tests}
use Rattle.cqc_model.specs.declared.Command.{Command}
use Rattle.cqc_model.specs.Wire.{spell}
use Rattle.cqc_model.specs.Plan.{Message, Plan, fixed, steps, messages, plan_of}
use Rattle.network_model.specs.Network.{Shape}
use Rattle.network_model.specs.Step.{draws}
use Rattle.network_model.specs.History.{IsLegalFrom, is_error, after, own_entries}
use Rattle.network_model.specs.declared.Call.{Call}
use Rattle.network_model.specs.declared.CoreReply.{CoreReply}
use Rattle.network_model.specs.declared.Entry.{Entry}
use Rattle.network_model.proofs.Histories.{after-last}
use Rattle.session_model.specs.Walk.{Connection, Said, call_of, done_text, spell_core, then_text, then_said, run_steps, run_plan, walk}
use Rattle.session_model.specs.Speaks.{calls_of, replies_of}
use Rattle.session_model.specs.Turns.{Actor, own, words_taken, said_by, fits_room, IsTurnEntry, IsTurnOf, AreTurns, turn_call}
use Rattle.session_model.specs.Worded.{AreWordedFrom}
use Rattle.session_model.specs.Laws.{SpokenEntriesAreTurns}

-- ---- what is asked with more replies
-- With these replies nothing is due, and one reply more asks nothing more.
record IsSilent (few more : Said) (n : ℕ) : Type 0 where
  same : more.asked ≡ few.asked
  short : length few.asked ≤ n

-- With these replies a call is due, and one reply more answers it.
record IsAsking (few more : Said) (n : ℕ) : Type 0 where
  front : List Call
  call : Call
  tail : List Call
  due : few.due ≡ Some call
  size : length front ≡ n
  asked : more.asked ≡ front ++ call ∷ tail

abbrev GoesFurther : Said → Said → ℕ → Type 0
GoesFurther few more n = IsSilent few more n ⊎ IsAsking few more n

after_text : (text : List ℕ) (few more : Said) (n : ℕ) → GoesFurther few more n → GoesFurther (then_text text few) (then_text text more) n
after_text text few more n (inl s) = inl (record { same = s.same; short = s.short })
after_text text few more n (inr a) = inr (record { front = a.front; call = a.call; tail = a.tail; due = a.due; size = a.size; asked = a.asked })

after_call : (c : Call) (text : List ℕ) (few more : Said) (n : ℕ) → GoesFurther few more n
    → GoesFurther (then_said (c ∷ []) text few) (then_said (c ∷ []) text more) (suc n)
after_call c text few more n (inl s) = inl (record { same = ap (λ (x : List Call). c ∷ x) s.same; short = omega (arith, s.short) })
after_call c text few more n (inr a) = inr (record {
  front = c ∷ a.front;
  call = a.call;
  tail = a.tail;
  due = a.due;
  size = omega (arith, a.size);
  asked = ap (λ (x : List Call). c ∷ x) a.asked;
})

steps_further : (p : Connection) (app : ℕ) (list : List Command) (notify : Bool) (next : List CoreReply → Said) (rs : List CoreReply) (r : CoreReply) (more : List CoreReply)
    → ((ss : List CoreReply) → GoesFurther (next ss) (next (ss ++ r ∷ more)) (length ss))
    → GoesFurther (run_steps p app list notify next rs) (run_steps p app list notify next (rs ++ r ∷ more)) (length rs)
steps_further p app [] notify next rs r more h = after_text (done_text app notify) (next rs) (next (rs ++ r ∷ more)) (length rs) (h rs)
steps_further p app (c ∷ cs) notify next [] r more h = inr (record { front = []; call = call_of p app c; tail = _; due = refl; size = refl; asked = refl })
steps_further p app (c ∷ cs) notify next (s ∷ ss) r more h =
    after_call (call_of p app c) (spell_core app s) _ _ (length ss) (by (is_error s) (steps_further p app cs notify next ss r more h))
  where
    by : (b : Bool) → GoesFurther (run_steps p app cs notify next ss) (run_steps p app cs notify next (ss ++ r ∷ more)) (length ss)
        → GoesFurther (if b then next ss else run_steps p app cs notify next ss)
        (if b then next (ss ++ r ∷ more) else run_steps p app cs notify next (ss ++ r ∷ more)) (length ss)
    by true on = h ss
    by false on = on

plan_further : (p : Connection) (app : ℕ) (plan : Plan) (next : List CoreReply → Said) (rs : List CoreReply) (r : CoreReply) (more : List CoreReply)
    → ((ss : List CoreReply) → GoesFurther (next ss) (next (ss ++ r ∷ more)) (length ss))
    → GoesFurther (run_plan p app plan next rs) (run_plan p app plan next (rs ++ r ∷ more)) (length rs)
plan_further p app (fixed reply) next rs r more h = after_text (spell app reply) (next rs) (next (rs ++ r ∷ more)) (length rs) (h rs)
plan_further p app (steps list notify) next rs r more h = steps_further p app list notify next rs r more h

walk_further : (p : Connection) (ms : List Message) (rs : List CoreReply) (r : CoreReply) (more : List CoreReply)
    → GoesFurther (walk p ms rs) (walk p ms (rs ++ r ∷ more)) (length rs)
walk_further p [] rs r more = inl (record { same = refl; short = omega arith })
walk_further p (m ∷ ms) rs r more = plan_further p m.head.app (plan_of m) (walk p ms) rs r more (λ ss. walk_further p ms ss r more)

heads_meet : (xs ys : List Call) (x y : Call) (us vs : List Call) → length xs ≡ length ys → xs ++ x ∷ us ≡ ys ++ y ∷ vs → x ≡ y
heads_meet [] [] x y us vs n e = cc
heads_meet [] (z ∷ zs) x y us vs n e = absurd (omega arith)
heads_meet (z ∷ zs) [] x y us vs n e = absurd (omega arith)
heads_meet (w ∷ ws) (z ∷ zs) x y us vs n e = heads_meet ws zs x y us vs (omega arith) (rest e)
  where
    rest : w ∷ (ws ++ x ∷ us) ≡ z ∷ (zs ++ y ∷ vs) → ws ++ x ∷ us ≡ zs ++ y ∷ vs
    rest h = cc

-- the call of an entry was due before it
due_by : (few more : Said) (n : ℕ) (calls : List Call) (c : Call) (others : List Call) → length calls ≡ n → more.asked ≡ calls ++ c ∷ others
    → GoesFurther few more n → few.due ≡ Some c
due_by few more n calls c others size e (inl s) =
    absurd (omega (arith, s.short, ap length (sym e ∙ s.same), length-append calls (c ∷ others)))
due_by few more n calls c others size e (inr a) =
    a.due ∙ ap Some (heads_meet a.front calls a.call c a.tail others (a.size ∙ sym size) (sym a.asked ∙ e))

-- ---- whose calls are asked
pub record IsCallOf (p : Connection) (c : Call) : Type 0 where
  seat : c.seat ≡ p.seat
  serial : c.serial ≡ p.serial

abbrev pub AreCallsOf : Connection → List Call → Type 0
AreCallsOf p [] = Unit {0}
AreCallsOf p (c ∷ cs) = IsCallOf p c × AreCallsOf p cs

steps_ours : (p : Connection) (app : ℕ) (list : List Command) (notify : Bool) (next : List CoreReply → Said) (rs : List CoreReply)
    → ((ss : List CoreReply) → AreCallsOf p (next ss).asked) → AreCallsOf p (run_steps p app list notify next rs).asked
steps_ours p app [] notify next rs h = h rs
steps_ours p app (c ∷ cs) notify next [] h = (record { seat = refl; serial = refl }, tt)
steps_ours p app (c ∷ cs) notify next (r ∷ rs) h = (record { seat = refl; serial = refl }, by (is_error r) (steps_ours p app cs notify next rs h))
  where
    by : (b : Bool) → AreCallsOf p (run_steps p app cs notify next rs).asked → AreCallsOf p (if b then next rs else run_steps p app cs notify next rs).asked
    by true on = h rs
    by false on = on

plan_ours : (p : Connection) (app : ℕ) (plan : Plan) (next : List CoreReply → Said) (rs : List CoreReply)
    → ((ss : List CoreReply) → AreCallsOf p (next ss).asked) → AreCallsOf p (run_plan p app plan next rs).asked
plan_ours p app (fixed reply) next rs h = h rs
plan_ours p app (steps list notify) next rs h = steps_ours p app list notify next rs h

walk_ours : (p : Connection) (ms : List Message) (rs : List CoreReply) → AreCallsOf p (walk p ms rs).asked
walk_ours p [] rs = tt
walk_ours p (m ∷ ms) rs = plan_ours p m.head.app (plan_of m) (walk p ms) rs (λ ss. walk_ours p ms ss)

front_ours : (p : Connection) (cs ds : List Call) → AreCallsOf p (cs ++ ds) → AreCallsOf p cs
front_ours p [] ds h = tt
front_ours p (c ∷ cs) ds h = (h.0, front_ours p cs ds h.1)

own_all : (p : Connection) (es : List Entry) → AreCallsOf p (calls_of es) → own_entries p.seat p.serial es ≡ es
unfolding own_entries
own_all p [] h = refl
own_all p (e ∷ es) h =
    let mine : ((e.call.seat == p.seat) && (e.call.serial == p.serial)) ≡ true = grind (arith, nat_tests, h.0.seat, h.0.serial) in
    ap (λ (b : Bool). if b then e ∷ own_entries p.seat p.serial es else own_entries p.seat p.serial es) mine
    ∙ ap (λ (x : List Entry). e ∷ x) (own_all p es h.1)

-- ---- the turns of entries
pub words_push : (h : List Entry) (e : Entry) → words_taken (h ++ e ∷ []) ≡ words_taken h + (if is_some e.word then 1 else 0)
words_push h e = sum_by-append (λ (x : Entry). if is_some x.word then 1 else 0) h (e ∷ []) ∙ ap (λ (n : ℕ). words_taken h + n) (simple (if is_some e.word then 1 else 0))
  where
    simple : (n : ℕ) → 0 + n ≡ n
    simple n = omega arith

pub word_is : (o : Option ℕ) (words : ℕ → ℕ) (taken : ℕ) (b : Bool) → IfSome o (λ w. w ≡ words taken) → is_some o ≡ b → o ≡ (if b then Some (words taken) else None)
word_is None words taken b h e = ap (λ (x : Bool). if x then Some (words taken) else None) e
word_is (Some w) words taken b h e = ap Some h ∙ ap (λ (x : Bool). if x then Some (words taken) else None) e

module _ (shape : Shape) (capacity : ℕ) (a : Actor) (all : List Entry) (alone : a.room ≡ None) (few : length all ≤ capacity)
    (others : List Call) (asked : (walk a.connection (messages a.input) (replies_of all)).asked ≡ calls_of all ++ others) where
  ours : AreCallsOf a.connection (calls_of all)
  ours = front_ours a.connection (calls_of all) others
      (subst (λ (x : List Call). AreCallsOf a.connection x) asked (walk_ours a.connection (messages a.input) (replies_of all)))

  pub own_front : (h es : List Entry) → h ++ es ≡ all → own a h ≡ h
  own_front h es e = own_all a.connection h
      (front_ours a.connection (calls_of h) (calls_of es)
      (subst (λ (x : List Call). AreCallsOf a.connection x) (sym (ap calls_of e) ∙ map-append (λ (x : Entry). x.call) h es) ours))

  due_is : (h : List Entry) (e : Entry) (es : List Entry) → h ++ e ∷ es ≡ all → (said_by a h).due ≡ Some e.call
  due_is h e es is =
      ap (λ (x : List Entry). (walk a.connection (messages a.input) (replies_of x)).due) (own_front h (e ∷ es) is)
      ∙ due_by (walk a.connection (messages a.input) (replies_of h)) (walk a.connection (messages a.input) (replies_of h ++ e.reply ∷ replies_of es))
      (length (replies_of h)) (calls_of h) e.call (calls_of es ++ others)
      (length-map h (λ (x : Entry). x.call) ∙ sym (length-map h (λ (x : Entry). x.reply)))
      (ap (λ (x : List CoreReply). (walk a.connection (messages a.input) x).asked) (sym (map-append (λ (x : Entry). x.reply) h (e ∷ es)) ∙ ap replies_of is)
      ∙ asked ∙ ap (λ (x : List Entry). calls_of x ++ others) (sym is) ∙ ap (λ (x : List Call). x ++ others) (map-append (λ (x : Entry). x.call) h (e ∷ es))
      ∙ append_assoc (calls_of h) (e.call ∷ calls_of es) others)
      (walk_further a.connection (messages a.input) (replies_of h) e.reply (replies_of es))

  turn_is : (h : List Entry) (e : Entry) (es : List Entry) → h ++ e ∷ es ≡ all → turn_call capacity a h ≡ Some e.call
  turn_is h e es is =
      let room : nat_lt (length h) capacity ≡ true = grind (arith, nat_tests, few, ap length is, length-append h (e ∷ es)) in
      ap (λ (b : Bool). if b && fits_room a.room (said_by a h).text then (said_by a h).due else None) room
      ∙ ap (λ (o : Option ℕ). if fits_room o (said_by a h).text then (said_by a h).due else None) alone
      ∙ due_is h e es is

  turns_from : (h es : List Entry) → h ++ es ≡ all → IsLegalFrom shape (after shape h) es → AreWordedFrom a.words (words_taken h) es
      → AreTurns shape capacity (replicate (length es) a) h all
  turns_from h [] is legal worded = sym is ∙ append-nil h
  turns_from h (e ∷ es) is legal worded =
      let entry : IsTurnEntry shape a h e.call e = record {
        call = refl;
        word = word_is e.word a.words (words_taken h) (draws (after shape h) e.call) worded.0 (legal.0).drawn
            ∙ ap (λ (x : List Entry). if draws (after shape h) e.call then Some (a.words (words_taken x)) else None) (sym (own_front h (e ∷ es) is));
        legal = legal.0;
      } in (
        h ++ e ∷ [],
        subst (IsTurnOf shape a h (h ++ e ∷ [])) (sym (turn_is h e es is)) (e, entry, refl),
        turns_from (h ++ e ∷ []) es (append_assoc h (e ∷ []) es ∙ is)
            (subst (λ s. IsLegalFrom shape s es) (sym (after-last shape h e)) (legal.1))
            (subst (λ (n : ℕ). AreWordedFrom a.words n es) (sym (words_push h e)) worded.1),
      )

pub spoken_entries_are_turns : SpokenEntriesAreTurns
unfolding after
spoken_entries_are_turns shape capacity a entries others alone few asked legal worded =
    turns_from shape capacity a entries alone few others asked [] entries refl legal worded
