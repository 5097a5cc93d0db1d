-- From what a session has led to, to what the connection has spoken.
use Rattle.std.proofs.Common.{◌≡◌, ℕ, ◌<◌, List, [], ◌∷◌, ◌++◌, length, Option, Some, Bool, refl, sym, ap, ◌∙◌, arith, subst, inl, inr, length-append}
use Rattle.std.proofs.lemmas.List.{append-nil, append_assoc, map-append}
use Rattle.cqc_model.specs.declared.Command.{Command}
use Rattle.network_model.specs.declared.Call.{Call}
use Rattle.network_model.specs.declared.Entry.{Entry}
use Rattle.network_model.specs.declared.CoreReply.{CoreReply}
use Rattle.session_model.specs.declared.Ending.{Ending}
use Rattle.session_model.specs.declared.Ending.TheVariants.{WriteFault, Full}
use Rattle.cqc_model.specs.declared.Fault.TheVariants as fault
use Rattle.cqc_model.specs.declared.Reply.TheVariants as reply
use Rattle.cqc_model.specs.Wire.{spell}
use Rattle.cqc_model.specs.Plan.{Cutting, messages}
use Rattle.cqc_model.proofs.Cuts.{short_part, cut_part}
use Rattle.session_model.specs.Walk.{Connection, Said, Work, between, working, call_of, spell_core, then_said, walk, walk_from, Leads}
use Rattle.session_model.specs.Speaks.{Setting, Speaks, EndsAs, FoundFull, ProperPrefix, Prefix, due_list, calls_of, replies_of, but_last}
use Rattle.session_model.proofs.Leading.{leads_on, leads_step, work_after}

-- Lists of entries.
pub but_last_push : (es : List Entry) (e : Entry) → but_last (es ++ e ∷ []) ≡ es
but_last_push [] e = refl
but_last_push (f ∷ []) e = refl
but_last_push (f ∷ g ∷ es) e = ap (λ (x : List Entry). f ∷ x) (but_last_push (g ∷ es) e)

pub calls_push : (es : List Entry) (e : Entry) → calls_of (es ++ e ∷ []) ≡ calls_of es ++ e.call ∷ []
calls_push es e = map-append (λ (x : Entry). x.call) es (e ∷ [])

pub replies_push : (es : List Entry) (e : Entry) → replies_of (es ++ e ∷ []) ≡ replies_of es ++ e.reply ∷ []
replies_push es e = map-append (λ (x : Entry). x.reply) es (e ∷ [])

-- One run after another that asks nothing, and one that asks one call.
pub leads_more : (p : Connection) (u v w : Work) (a b : List ℕ) (c : List Call) (r : List CoreReply) (x y : List ℕ)
    → Leads p u a c r x v → Leads p v b [] [] y w → Leads p u (a ++ b) c r (x ++ y) w
leads_more p u v w a b c r x y f g =
    subst (λ (k : List Call). Leads p u (a ++ b) k r (x ++ y) w) (append-nil c)
    (subst (λ (k : List CoreReply). Leads p u (a ++ b) (c ++ []) k (x ++ y) w) (append-nil r) (leads_on p u v w a b c [] r [] x y f g))

pub leads_asked : (p : Connection) (u v w : Work) (a : List ℕ) (c d : List Call) (r s : List CoreReply) (x y : List ℕ)
    → Leads p u a c r x v → Leads p v [] d s y w → Leads p u a (c ++ d) (r ++ s) (x ++ y) w
leads_asked p u v w a c d r s x y f g =
    subst (λ (k : List ℕ). Leads p u k (c ++ d) (r ++ s) (x ++ y) w) (append-nil a) (leads_on p u v w a [] c d r s x y f g)

-- what was said in all, up to a work
pub said_at : (p : Connection) (w : Work) (b : List ℕ) (c : List Call) (r : List CoreReply) (out later : List ℕ)
    → Leads p between b c r out w → walk p (messages (b ++ later)) r ≡ then_said c out (walk_from p w (messages later) [])
said_at p w b c r out later f = ap (walk p (messages (b ++ later))) (sym (append-nil r)) ∙ f.says later []

-- the text up to a call that is due
pub due_text : (connection : Connection) (call : Call) (others : List Command) (notify : Bool) (w : Work) (b : List ℕ) (c : List Call) (r : List CoreReply) (out later : List ℕ)
    → Leads connection between b c r out w → w ≡ working call.app (call.command ∷ others) notify
    → walk connection (messages (b ++ later)) r ≡ record { asked = c ++ call_of connection call.app call.command ∷ []; text = out ++ []; due = Some (call_of connection call.app call.command) }
due_text connection call others notify w b c r out later f e =
    said_at connection w b c r out later f ∙ ap (λ (x : Work). then_said c out (walk_from connection x (messages later) [])) e

-- an ending, from what was said
pub speaks_by : (s : Setting) (b out : List ℕ) (es : List Entry) (said : Said) (ending : Ending) → walk s.connection (messages b) (replies_of es) ≡ said
    → said.asked ≡ calls_of es ++ due_list said.due → EndsAs s b es said out ending → Speaks s b es out ending
speaks_by s b out es said ending is asked ends = record {
  asked = subst (λ (w : Said). w.asked ≡ calls_of es ++ due_list w.due) (sym is) asked;
  ends = subst (λ (w : Said). EndsAs s b es w out ending) (sym is) ends;
}

-- what was said up to any work, and nothing after it
asked_by : (connection : Connection) (w : Work) (c : List Call) → (walk_from connection w [] []).asked ≡ due_list (walk_from connection w [] []).due
asked_by connection between c = refl
asked_by connection (working app [] notify) c = refl
asked_by connection (working app (x ∷ xs) notify) c = refl

-- a reply that could not be written whole
pub broken_speaks : (connection : Connection) (cap : ℕ) (rest_left : Option (List ℕ)) (es : List Entry) (seen capacity : ℕ) (b whole out : List ℕ) (w : Work)
    → Leads connection between b (calls_of es) (replies_of es) whole w → ProperPrefix out whole
    → (0 < length es → Prefix (walk connection (messages b) (replies_of (but_last es))).text out)
    → Speaks (record { connection = connection; cap = cap; left = rest_left; entries = seen; capacity = capacity }) b es out WriteFault
broken_speaks connection cap rest_left es seen capacity b whole out w f short last =
    let after = walk_from connection w [] [] in
    let said : walk connection (messages b) (replies_of es) ≡ then_said (calls_of es) whole after =
    ap (λ (x : List ℕ). walk connection (messages x) (replies_of es)) (sym (append-nil b))
    ∙ said_at connection w b (calls_of es) (replies_of es) whole [] f
    ∙ ap (λ (k : Cutting). then_said (calls_of es) whole (walk_from connection w k.messages [])) (cut_part [] (short_part [] (omega arith))) in
    speaks_by _ b out es _ WriteFault said
    (ap (λ (x : List Call). calls_of es ++ x) (asked_by connection w (calls_of es))) (
      inl (
        short.0 ++ after.text,
        omega (arith, length-append short.0 after.text, short.1),
        sym (append_assoc out short.0 after.text) ∙ ap (λ x. x ++ after.text) short.2,
      ),
      last,
    )

-- the step of the call that is asked, whatever it is answered
pub asked_step : (connection : Connection) (v : Work) (call : Call) (others : List Command) (notify : Bool) (r : CoreReply)
    → v ≡ working call.app (call.command ∷ others) notify → call ≡ call_of connection call.app call.command
    → Leads connection v [] (call ∷ []) (r ∷ []) (spell_core call.app r) (work_after call.app others notify r)
asked_step connection v call others notify r is call_is =
    subst (λ (x : Work). Leads connection x [] (call ∷ []) (r ∷ []) (spell_core call.app r) (work_after call.app others notify r)) (sym is)
    (subst (λ (k : Call). Leads connection (working call.app (call.command ∷ others) notify) [] (k ∷ []) (r ∷ []) (spell_core call.app r) (work_after call.app others notify r)) (sym call_is)
    (leads_step connection call.app call.command others notify r))

-- the bytes of GENERAL
abbrev pub general : ℕ → List ℕ
general app = spell app (reply.Error fault.General)

-- bytes more behind a prefix, and bytes more in front of one
pub prefix_more : (before out more : List ℕ) → Prefix before out → Prefix before (out ++ more)
prefix_more before out more (some, is) = (some ++ more, sym (append_assoc before some more) ∙ ap (λ x. x ++ more) is)

pub proper_behind : (front out whole : List ℕ) → ProperPrefix out whole → ProperPrefix (front ++ out) (front ++ whole)
proper_behind front out whole (more, some, is) = (more, some, append_assoc front out more ∙ ap (λ x. front ++ x) is)

-- where a text was not written whole, more is said than was written, whatever follows
pub said_longer : (p : Connection) (w : Work) (b : List ℕ) (c : List Call) (r : List CoreReply) (whole out later : List ℕ)
    → Leads p between b c r whole w → ProperPrefix out whole → length out < length (walk p (messages (b ++ later)) r).text
said_longer p w b c r whole out later f (more, some, is) =
    let tail = (walk_from p w (messages later) []).text in
    subst (λ (s : Said). length out < length s.text) (sym (said_at p w b c r whole later f))
    (omega (arith, length-append whole tail, ap length is, length-append out more, some))

-- a call is due after what was said so far
abbrev pub asks : List Call → List ℕ → Call → Said
asks calls text call = record { asked = calls ++ call ∷ []; text = text ++ []; due = Some call }

-- the journal was full, and that was told
pub full_speaks : (s : Setting) (b given : List ℕ) (es : List Entry) (call : Call) (count : ℕ) → walk s.connection (messages b) (replies_of es) ≡ asks (calls_of es) given call
    → FoundFull s → count ≡ s.capacity → Speaks s b es (given ++ general call.app) (Full count)
full_speaks s b given es call count said found is =
    speaks_by s b (given ++ general call.app) es (asks (calls_of es) given call) (Full count) said refl
    (ap (λ x. x ++ general call.app) (sym (append-nil given)), found, is)

-- the journal was full, and that could not be told whole
pub full_broken_speaks : (s : Setting) (b given part : List ℕ) (es : List Entry) (call : Call) → walk s.connection (messages b) (replies_of es) ≡ asks (calls_of es) given call
    → FoundFull s → ProperPrefix part (general call.app) → (0 < length es → Prefix (walk s.connection (messages b) (replies_of (but_last es))).text (given ++ part))
    → Speaks s b es (given ++ part) WriteFault
full_broken_speaks s b given part es call said found short last =
    speaks_by s b (given ++ part) es (asks (calls_of es) given call) WriteFault said refl
    (inr (found, subst (λ x. ProperPrefix (given ++ part) (x ++ general call.app)) (sym (append-nil given)) (proper_behind given part (general call.app) short)), last)
