-- Walks: what they still ask after each step, and that they open with what the plan says.
-- Main results: `asks_first`, `done_is`, `moved_here`, `moved_round`, `begins_first`, `over_first`, `opens`.
use Rattle.std.proofs.Common.{◌≡◌, ℕ, zero, suc, ◌-◌, ◌<◌, ◌≤◌, List, [], ◌∷◌, ◌++◌, length, drop, Bool, true, false, ◌||◌, Option, None, Some, Result, Ok, Err, IsOk, refl, sym, ap, subst, ◌∙◌, arith, nat_lt}
use Rattle.std.specs.Prelude.{replicate, ◌&&◌, is_some, if◌then◌else◌, slice_index}
use Rattle.std.specs.List.{flat_map}
use Rattle.std.proofs.lemmas.List.{drop_all}
use Rattle.std.proofs.lemmas.Bool.Decides.{nat_tests}
use Rattle.cqc_model.specs.declared.Command.{Command}
use Rattle.cqc_model.specs.declared.BodyFault.{BodyFault}
use Rattle.cqc_model.specs.Plan.{fixed, steps, commands, unrolled, list_plan, body_plan, body_limit, has_option}
use Rattle.cqc_model.specs.declared.Fault.TheVariants as fault
use Rattle.cqc_model.specs.declared.Reply.TheVariants as reply
use Rattle.cqc_program.specs.declared.round.Copies.{Copies}
use Rattle.cqc_program.specs.declared.round.Stand.{Stand}
use Rattle.cqc_program.specs.declared.walk.Walk.{Walk}
use Rattle.cqc_program.specs.declared.walk.Front.{Front}
use Rattle.cqc_program.specs.Rounds.{kind_of, listed, list_at, round_at, rounds_at, notifies, copies_list, notices, AsksSome, IsAt, GoesOn, ended, left_from, FrontAs, BeginsAs}
use Rattle.cqc_program.specs.Walks.{IsOver, MovesOn, left_of, notify_of}
use Rattle.cqc_program.proofs.Rounds.{none_at}

or_false : (b : Bool) → (b || false) ≡ b
or_false true = refl
or_false false = refl

or_twice : (a b : Bool) → ((a || b) || b) ≡ (a || b)
or_twice true b = refl
or_twice false true = refl
or_twice false false = refl

-- some copies are one in front of the others
copies_first : (t : ℕ) (c : Command) (round behind : List Command) → 0 < t → replicate t c ++ round ++ behind ≡ c ∷ (replicate (t - 1) c ++ round ++ behind)
copies_first zero c round behind h = absurd (omega arith)
copies_first (suc n) c round behind h = let e : suc n - 1 ≡ n = omega arith in rw e refl

-- a number above 0
above : (n : ℕ) → nat_lt 0 (suc n) ≡ true
above n = grind (arith, nat_tests)

-- at the end of a body nothing counts any more
notices_end : (body : List ℕ) (s : Stand) → length body ≤ s.at → notices body s ≡ s.noticed
notices_end body s h = ap (λ (x : List Command). s.noticed || notifies x) (none_at body s.at h) ∙ or_false s.noticed

round_end : (body : List ℕ) (at : ℕ) → length body ≤ at → round_at body at ≡ []
round_end body at h = ap (λ (x : List Command). flat_map unrolled x) (none_at body at h)

asked_at : (body : List ℕ) (s : Stand) (o : Option Copies) → IsAt body s → s.asked ≡ o → AsksSome (length body) s o
asked_at body s o is e = subst (λ (x : Option Copies). AsksSome (length body) s x) e is.asked

-- the command that is asked next
pub asks_first : (body : List ℕ) (w : Walk) (c : Copies) → IsOver body w → w.stand.asked ≡ Some c
    → left_of body w ≡ c.command ∷ (replicate (c.times - 1) c.command ++ round_at body w.stand.at ++ rounds_at w.stand.rounds body w.start)
asks_first body w c over e =
    ap (left_from body w.start w.stand) e ∙ copies_first c.times c.command _ _ (asked_at body w.stand (Some c) over.is e).0

-- where nothing is left, DONE is due where a NOTIFY counted
pub done_is : (body : List ℕ) (w : Walk) → IsOver body w → left_of body w ≡ [] → w.stand.noticed ≡ notify_of body w
done_is body w over none = done_by w.stand.asked refl
  where
    done_by : (o : Option Copies) → w.stand.asked ≡ o → w.stand.noticed ≡ notify_of body w
    done_by None e = sym (notices_end body w.stand (omega (arith, asked_at body w.stand None over.is e)))
    done_by (Some c) e = absurd (some_left (sym (asks_first body w c over e) ∙ none))
      where
        some_left : {x : Command} {xs : List Command} → x ∷ xs ≡ [] → ⊥
        some_left h = cc

-- the end of a body
end_sound : (body : List ℕ) → IsOk (commands (drop (length body) body))
unfolding commands
end_sound body = rw (drop_all (length body) body (omega arith)) refl

pub at_end : (body : List ℕ) (noticed : Bool) → IsAt body (ended (length body) noticed)
at_end body noticed = record { within = omega arith; sound = end_sound body; asked = refl }

pub over_end : (body : List ℕ) (w : Walk) (noticed : Bool) → IsOver body w → IsOver body (record { start = w.start; stand = ended (length body) noticed })
over_end body w noticed over = record {
  short = over.short;
  start = over.start;
  sound = over.sound;
  is = at_end body noticed;
  counted = λ h. absurd (omega arith);
}

pub notice_end : (body : List ℕ) (noticed : Bool) → notices body (ended (length body) noticed) ≡ noticed
notice_end body noticed = notices_end body (ended (length body) noticed) (omega arith)

-- rounds that ask nothing
none_rounds : (n : ℕ) (body : List ℕ) (at : ℕ) → round_at body at ≡ [] → rounds_at n body at ≡ []
none_rounds zero body at h = refl
none_rounds (suc n) body at h = ap (λ (x : List Command). x ++ rounds_at n body at) h ∙ none_rounds n body at h

-- what is left where a round goes on
here_asks : (body : List ℕ) (start : ℕ) (old new : Stand) → GoesOn body old new → (new.asked ≡ None → rounds_at old.rounds body start ≡ [])
    → left_from body start new new.asked ≡ round_at body old.at ++ rounds_at old.rounds body start
here_asks body start old new g none = by new.asked refl
  where
    by : (o : Option Copies) → new.asked ≡ o → left_from body start new new.asked ≡ round_at body old.at ++ rounds_at old.rounds body start
    by (Some c) e =
        ap (left_from body start new) e
        ∙ ap (λ n. copies_list (Some c) ++ round_at body new.at ++ rounds_at n body start) g.rounds
        ∙ ap (λ (x : List Command). x ++ rounds_at old.rounds body start) (sym (g.asks ∙ ap (λ (o : Option Copies). copies_list o ++ round_at body new.at) e))
    by None e =
        let end = round_end body new.at (omega (arith, asked_at body new None g.is e)) in
        ap (left_from body start new) e
        ∙ sym (ap (λ (x : List Command). x ++ rounds_at old.rounds body start) (g.asks ∙ ap (λ (o : Option Copies). copies_list o ++ round_at body new.at) e ∙ end)
        ∙ none e)

-- this round asks something, or is the last one
pub moved_here : (body : List ℕ) (w : Walk) (s : Stand) → GoesOn body w.stand s → (s.asked ≡ None → s.rounds ≡ 0) → MovesOn body w s
moved_here body w s g last = record {
  is = g.is;
  fewer = omega (arith, g.rounds);
  asks = here_asks body w.start w.stand s g (λ e. ap (λ n. rounds_at n body w.start) (sym g.rounds ∙ last e));
  notify = g.notify;
}

-- the next round
pub moved_round : (body : List ℕ) (w : Walk) (mid s : Stand) (n : ℕ) → IsOver body w → GoesOn body w.stand mid → mid.asked ≡ None → mid.rounds ≡ suc n
    → GoesOn body (record mid { rounds = n; at = w.start }) s → MovesOn body w s
moved_round body w mid s n over f none more g = record {
  is = g.is;
  fewer = omega (arith, g.rounds, f.rounds);
  asks =
      here_asks body w.start (record mid { rounds = n; at = w.start }) s g (λ e. none_rounds n body w.start (nothing e))
      ∙ ap (λ (x : List Command). x ++ rounds_at (suc n) body w.start)
      (sym (f.asks ∙ ap (λ (o : Option Copies). copies_list o ++ round_at body mid.at) none ∙ round_end body mid.at (omega (arith, asked_at body mid None f.is none))))
      ∙ ap (λ k. round_at body w.stand.at ++ rounds_at k body w.start) (sym more ∙ f.rounds);
  notify = g.notify ∙ ap (λ (b : Bool). b || notifies (list_at body w.start)) noticed ∙ over.counted (omega (arith, more, f.rounds));
}
  where
    noticed : mid.noticed ≡ notices body w.stand
    noticed = sym (notices_end body mid (omega (arith, asked_at body mid None f.is none))) ∙ f.notify

    nothing : s.asked ≡ None → round_at body w.start ≡ []
    nothing e = g.asks ∙ ap (λ (o : Option Copies). copies_list o ++ round_at body s.at) e ∙ round_end body s.at (omega (arith, asked_at body s None g.is e))

-- no round is run
pub begins_none : (body : List ℕ) (f : Front) → IsOk (commands (drop f.start body)) → f.repeats ≡ 0 → BeginsAs body f (ended (length body) f.notify)
begins_none body f ok none = record {
  is = at_end body f.notify;
  sound = ok;
  some = λ h. absurd (omega arith);
  asks = sym (ap (λ n. rounds_at n body f.start) none);
  notify = notice_end body f.notify ∙ sym (or_false f.notify) ∙ ap (λ n. f.notify || (nat_lt 0 n && notifies (list_at body f.start))) (sym none);
}

-- the first round
pub begins_first : (body : List ℕ) (f : Front) (n : ℕ) (s : Stand) → IsOk (commands (drop f.start body)) → f.repeats ≡ suc n
    → GoesOn body (record { rounds = n; at = f.start; asked = None; noticed = f.notify }) s → BeginsAs body f s
begins_first body f n s ok more g = record {
  is = g.is;
  sound = ok;
  some = λ h. omega (arith, more);
  asks = here_asks body f.start _ s g (λ e. none_rounds n body f.start (nothing e)) ∙ ap (λ k. rounds_at k body f.start) (sym more);
  notify = g.notify ∙ ap (λ (b : Bool). f.notify || (b && notifies (list_at body f.start))) (sym (above n))
      ∙ ap (λ k. f.notify || (nat_lt 0 k && notifies (list_at body f.start))) (sym more);
}
  where
    nothing : s.asked ≡ None → round_at body f.start ≡ []
    nothing e = g.asks ∙ ap (λ (o : Option Copies). copies_list o ++ round_at body s.at) e ∙ round_end body s.at (omega (arith, asked_at body s None g.is e))

-- a walk that was opened
pub over_first : (body : List ℕ) (f : Front) (s : Stand) → length body ≤ body_limit → f.start ≤ length body → BeginsAs body f s → IsOver body (record { start = f.start; stand = s })
over_first body f s short start b = record {
  short = short;
  start = start;
  sound = b.sound;
  is = b.is;
  counted = λ h. counted_by f.repeats refl (b.some h);
}
  where
    counted_by : (n : ℕ) → f.repeats ≡ n → 0 < n → (notices body s || notifies (list_at body f.start)) ≡ notices body s
    counted_by zero e h = absurd (omega arith)
    counted_by (suc n) e h =
        let now : notices body s ≡ (f.notify || notifies (list_at body f.start)) =
        b.notify ∙ ap (λ k. f.notify || (nat_lt 0 k && notifies (list_at body f.start))) e
        ∙ ap (λ (x : Bool). f.notify || (x && notifies (list_at body f.start))) (above n) in
        ap (λ (x : Bool). x || notifies (list_at body f.start)) now ∙ or_twice f.notify (notifies (list_at body f.start)) ∙ sym now

-- the plan of a list without a fault
plan_of_list : (repeats : ℕ) (notify : Bool) (body : List ℕ) (start : ℕ) (r : Result (List Command) BodyFault) → commands (drop start body) ≡ r → IsOk r
    → list_plan repeats notify (commands (drop start body)) ≡ steps (rounds_at repeats body start) (notify || (nat_lt 0 repeats && notifies (list_at body start)))
unfolding list_at
plan_of_list repeats notify body start (Ok cs) e ok =
    ap (list_plan repeats notify) e
    ∙ ap (λ (r : Result (List Command) BodyFault). steps (flat_map (λ c. c) (replicate repeats (flat_map unrolled (listed r)))) (notify || (nat_lt 0 repeats && notifies (listed r)))) (sym e)
plan_of_list repeats notify body start (Err f) e ok = absurd (never f ok)
  where
    never : (f : BodyFault) → IsOk {T = List Command} (Err f) → ⊥
    never f h = cc

plan_is : (body : List ℕ) (f : Front) (s : Stand) → BeginsAs body f s
    → list_plan f.repeats f.notify (commands (drop f.start body)) ≡ steps (left_from body f.start s s.asked) (notices body s)
plan_is body f s b =
    plan_of_list f.repeats f.notify body f.start (commands (drop f.start body)) refl b.sound
    ∙ ap (λ (x : List Command). steps x (f.notify || (nat_lt 0 f.repeats && notifies (list_at body f.start)))) (sym b.asks)
    ∙ ap (steps (left_from body f.start s s.asked)) (sym b.notify)

-- the plan of a message, by its front
pub opens : (factory : Bool) (body : List ℕ) (f : Front) (s : Stand) → FrontAs factory body (Ok f) → BeginsAs body f s
    → body_plan (kind_of factory) body ≡ steps (left_from body f.start s s.asked) (notices body s)
opens false body f s is b =
    sym (ap (λ (g : Front). list_plan g.repeats g.notify (commands (drop g.start body))) is) ∙ plan_is body f s b
opens true body f s is b =
    let long : nat_lt (length body) 2 ≡ false = grind (arith, nat_tests, is.0) in
    ap (λ (t : Bool). if t then fixed (reply.Error fault.General) else list_plan (slice_index body 0) (has_option 0 (slice_index body 1)) (commands (drop 2 body))) long
    ∙ sym (ap (λ (g : Front). list_plan g.repeats g.notify (commands (drop g.start body))) is.1) ∙ plan_is body f s b

-- the list of a FACTORY begins behind its two bytes
pub front_fits : (factory : Bool) (body : List ℕ) (f : Front) → FrontAs factory body (Ok f) → f.start ≤ length body
front_fits false body f is = omega (arith, ap Front.start is)
front_fits true body f is = omega (arith, is.0, ap Front.start is.1)

-- where something is asked, and where not
pub some_is_not_none : (o : Option Copies) (P : Type 0) → true ≡ is_some o → o ≡ None → P
some_is_not_none None P h e = absurd (never h)
  where
    never : true ≡ false → ⊥
    never h = cc
some_is_not_none (Some c) P h e = absurd (never e)
  where
    never : Some c ≡ None → ⊥
    never e = cc

pub none_by : (o : Option Copies) → false ≡ is_some o → o ≡ None
none_by None h = refl
none_by (Some c) h = absurd (never h)
  where
    never : false ≡ true → ⊥
    never h = cc
