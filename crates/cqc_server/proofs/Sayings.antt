-- More bytes behind those that were read: more messages, and what is said goes on from what was said.
use Rattle.std.proofs.Common.{◌≡◌, ℕ, zero, suc, ◌+◌, ◌-◌, ◌≤◌, List, [], ◌∷◌, ◌++◌, length, take, drop, Bool, true, false, Option, None, Some, refl, sym, ap, subst, ◌∙◌, arith, length-drop, length-take-le, append_assoc}
use Rattle.std.specs.Prelude.{if◌then◌else◌}
use Rattle.std.proofs.lemmas.List.{take-append-drop, drop-drop, append-nil}
use Rattle.std.proofs.lemmas.Bool.Decides.{nat_tests}
use Rattle.cqc_model.specs.declared.Command.{Command}
use Rattle.cqc_model.specs.Wire.{header_of, spell}
use Rattle.cqc_model.specs.Plan.{Message, Cutting, Plan, fixed, steps, plan_of, body_size, begins_whole, with_message, cut, messages}
use Rattle.cqc_model.proofs.Cuts.{IsMessage, cut_part, cut_message, message_of, header_front}
use Rattle.network_model.specs.declared.Call.{Call}
use Rattle.network_model.specs.declared.CoreReply.{CoreReply}
use Rattle.network_model.specs.History.{is_error}
use Rattle.session_model.specs.Walk.{Connection, Said, call_of, done_text, spell_core, then_text, then_said, run_steps, run_plan, walk}
use Rattle.session_model.specs.Speaks.{Prefix}

-- ---- messages
-- the message in front: its header, its body, and what is behind them
abbrev head : List ℕ → List ℕ
head b = take 8 b

abbrev body : List ℕ → List ℕ
body b = take (body_size b) (drop 8 b)

abbrev behind : List ℕ → List ℕ
behind b = drop (body_size b) (drop 8 b)

parts : (b later : List ℕ) → b ++ later ≡ head b ++ (body b ++ (behind b ++ later))
parts b later =
    ap (λ x. x ++ later) (sym (take-append-drop 8 b) ∙ ap (λ x. head b ++ x) (sym (take-append-drop (body_size b) (drop 8 b))))
    ∙ append_assoc (head b) (body b ++ behind b) later
    ∙ ap (λ x. head b ++ x) (append_assoc (body b) (behind b) later)

whole_size : (b : List ℕ) → begins_whole b ≡ true → 8 + body_size b ≤ length b
whole_size b h = grind (arith, nat_tests, h)

front_is : (b : List ℕ) → begins_whole b ≡ true → IsMessage (head b) (body b)
front_is b h =
    let long = whole_size b h in
    let eight : length (head b) ≡ 8 = length-take-le 8 b (omega (arith, long)) in
    let same : header_of b ≡ header_of (head b) = ap header_of (sym (take-append-drop 8 b)) ∙ header_front (head b) (drop 8 b) eight in
    record {
      eight = eight;
      size = length-take-le (body_size b) (drop 8 b) (omega (arith, long, length-drop 8 b)) ∙ ap (λ h. h.length) same;
    }

abbrev HasMore : List ℕ → List ℕ → Type 0
HasMore b later = (ms : List Message) × (messages (b ++ later) ≡ messages b ++ ms)

-- by the message in front, where one is whole
more_behind : (b later : List ℕ) (t : Bool) → begins_whole b ≡ t → (begins_whole b ≡ true → HasMore (behind b) later) → HasMore b later
more_behind b later false none others = (messages (b ++ later), ap (λ (c : Cutting). c.messages ++ messages (b ++ later)) (sym (cut_part b none)))
more_behind b later true whole others =
    let is = front_is b whole in
    let m = message_of (header_of (head b)) (body b) in
    let more = others whole in
    let now : messages b ≡ m ∷ messages (behind b) =
    ap (λ x. messages x) (sym (append-nil b) ∙ parts b [] ∙ ap (λ x. head b ++ (body b ++ x)) (append-nil (behind b)))
    ∙ ap (λ (c : Cutting). c.messages) (cut_message (head b) (body b) (behind b) is) in
    let behind_all : messages (b ++ later) ≡ m ∷ messages (behind b ++ later) =
    ap (λ x. messages x) (parts b later) ∙ ap (λ (c : Cutting). c.messages) (cut_message (head b) (body b) (behind b ++ later) is) in (
      more.0,
      behind_all ∙ ap (λ (ms : List Message). m ∷ ms) more.1 ∙ ap (λ (ms : List Message). ms ++ more.0) (sym now),
    )

behind_size : (b : List ℕ) → length (behind b) ≡ length b - 8 - body_size b
behind_size b = length-drop (body_size b) (drop 8 b) ∙ ap (λ n. n - body_size b) (length-drop 8 b)

-- more bytes give more messages behind the same
more_messages : (n : ℕ) (b later : List ℕ) → length b ≤ n → HasMore b later
more_messages zero b later few = more_behind b later (begins_whole b) refl (λ whole. absurd (omega (arith, few, whole_size b whole)))
more_messages (suc n) b later few =
    more_behind b later (begins_whole b) refl
    (λ whole. more_messages n (behind b) later (omega (arith, few, whole_size b whole, behind_size b)))

-- ---- what is said
-- what is said with more messages goes on from what was said, or is the same where a call waits for its reply
abbrev ExtendsBy : Option Call → Said → Said → Type 0
ExtendsBy None s t = Prefix s.text t.text
ExtendsBy (Some c) s t = t ≡ s

abbrev pub Extends : Said → Said → Type 0
Extends s t = ExtendsBy s.due s t

then_by : (calls : List Call) (bytes : List ℕ) (s t : Said) (due : Option Call) → ExtendsBy due s t → ExtendsBy due (then_said calls bytes s) (then_said calls bytes t)
then_by calls bytes s t None (more, is) = (more, append_assoc bytes s.text more ∙ ap (λ x. bytes ++ x) is)
then_by calls bytes s t (Some c) is = ap (then_said calls bytes) is

then_more : (calls : List Call) (bytes : List ℕ) (s t : Said) → Extends s t → Extends (then_said calls bytes s) (then_said calls bytes t)
then_more calls bytes s t h = then_by calls bytes s t s.due h

abbrev AllExtend : (List CoreReply → Said) → (List CoreReply → Said) → Type 0
AllExtend f g = (rs : List CoreReply) → Extends (f rs) (g rs)

either_more : (t : Bool) (a b c d : Said) → Extends a b → Extends c d → Extends (if t then a else c) (if t then b else d)
either_more true a b c d h k = h
either_more false a b c d h k = k

steps_more : (p : Connection) (app : ℕ) (cs : List Command) (notify : Bool) (f g : List CoreReply → Said) → AllExtend f g → AllExtend (run_steps p app cs notify f) (run_steps p app cs notify g)
steps_more p app [] notify f g h rs = then_more [] (done_text app notify) (f rs) (g rs) (h rs)
steps_more p app (c ∷ cs) notify f g h [] = refl
steps_more p app (c ∷ cs) notify f g h (r ∷ rs) =
    then_more (call_of p app c ∷ []) (spell_core app r) _ _ (either_more (is_error r) (f rs) (g rs) _ _ (h rs) (steps_more p app cs notify f g h rs))

plan_more : (p : Connection) (app : ℕ) (plan : Plan) (f g : List CoreReply → Said) → AllExtend f g → AllExtend (run_plan p app plan f) (run_plan p app plan g)
plan_more p app (fixed r) f g h rs = then_more [] (spell app r) (f rs) (g rs) (h rs)
plan_more p app (steps list notify) f g h rs = steps_more p app list notify f g h rs

walk_more : (p : Connection) (ms more : List Message) → AllExtend (walk p ms) (walk p (ms ++ more))
walk_more p [] more rs = ((walk p more rs).text, refl)
walk_more p (m ∷ ms) more rs = plan_more p m.head.app (plan_of m) (walk p ms) (walk p (ms ++ more)) (walk_more p ms more) rs

-- more bytes behind those that were read
pub said_more : (p : Connection) (b later : List ℕ) (rs : List CoreReply) → Extends (walk p (messages b) rs) (walk p (messages (b ++ later)) rs)
said_more p b later rs =
    let more = more_messages (length b) b later (omega arith) in
    subst (λ (ms : List Message). Extends (walk p (messages b) rs) (walk p ms rs)) (sym more.1) (walk_more p (messages b) more.0 rs)
