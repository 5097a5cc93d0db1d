-- How an actor over a link in memory ended is what the definition of turns says.
use Rattle.std.proofs.Common.{◌≡◌, ◌⊎◌, inl, inr, ℕ, zero, suc, ◌+◌, ◌-◌, ◌<◌, ◌≤◌, List, [], ◌++◌, length, take, Bool, true, false, Option, None, Some, unwrap_or, refl, sym, ap, subst, ◌∙◌, arith, length-append, append_assoc}
use Rattle.std.specs.Prelude.{if◌then◌else◌, ◌==◌, nat_le, nat_lt, MatchBool, IsSomeAnd}
use Rattle.std.proofs.lemmas.List.{append-nil}
use Rattle.std.proofs.Math.Seq.{take-append_seam}
use Rattle.std.proofs.lemmas.Bool.Decides.{nat_tests}
use Rattle.network_model.specs.declared.Call.{Call}
use Rattle.network_model.specs.declared.Entry.{Entry}
use Rattle.cqc_model.specs.declared.Fault.TheVariants as fault
use Rattle.cqc_model.specs.declared.Reply.TheVariants as reply
use Rattle.cqc_model.specs.Wire.{spell}
use Rattle.cqc_model.specs.Plan.{messages, rest, body_size}
use Rattle.session_model.specs.declared.Ending.{Ending}
use Rattle.session_model.specs.declared.Ending.TheVariants.{Clean, Cut, ReadFault, WriteFault, Full, Spent}
use Rattle.session_model.specs.Walk.{Connection, Said, walk}
use Rattle.session_model.specs.Speaks.{Setting, EndsAs, Ended, FoundFull, CutAt, ProperPrefix, Prefix, general_text, with_general, replies_of}
use Rattle.session_model.specs.Turns.{Actor, Finish, cut_of, end_of, whole_of, ends_in}
use Rattle.cqc_server.proofs.Sayings.{Extends, said_more}

-- ---- the whole and the room
fits : (whole : List ℕ) (room : ℕ) (ending : Ending) → length whole ≤ room → ends_in (Some room) whole ending ≡ record { ending = ending; written = whole }
fits whole room ending few =
    ap (λ (t : Bool). if t then record { ending = ending; written = whole } else record { ending = WriteFault; written = take room whole }) (test (length whole) room few)
  where
    test : (n r : ℕ) → n ≤ r → nat_le n r ≡ true
    test n r h = grind (arith, nat_tests)

breaks : (whole out : List ℕ) (room : ℕ) (ending : Ending) → ProperPrefix out whole → length out ≡ room
    → ends_in (Some room) whole ending ≡ record { ending = WriteFault; written = out }
breaks whole out room ending (more, some, is) size =
    let long : room < length whole = omega (arith, size, some, ap length is, length-append out more) in
    ap (λ (t : Bool). if t then record { ending = ending; written = whole } else record { ending = WriteFault; written = take room whole }) (test (length whole) room long)
    ∙ ap (λ (x : List ℕ). record { ending = WriteFault; written = x }) (ap (λ n. take n whole) (sym size) ∙ ap (take (length out)) (sym is) ∙ take-append_seam out more)
  where
    test : (n r : ℕ) → r < n → nat_le n r ≡ false
    test n r h = grind (arith, nat_tests)

proper_in : (out x whole : List ℕ) → ProperPrefix out x → Prefix x whole → ProperPrefix out whole
proper_in out x whole (more, some, is) (rest, end) =
    (more ++ rest, omega (arith, some, length-append more rest), sym (append_assoc out more rest) ∙ ap (λ y. y ++ rest) is ∙ end)

same_prefix : (x : List ℕ) → Prefix x x
same_prefix x = ([], append-nil x)

prefix_in : (x y z : List ℕ) → Prefix x y → Prefix y z → Prefix x z
prefix_in x y z (a, is) (b, end) = (a ++ b, sym (append_assoc x a b) ∙ ap (λ w. w ++ b) is ∙ end)

-- ---- what was said of the bytes read, and what is said of the whole input
text_in : (s : Said) (capacity : ℕ) (h : List Entry) → Prefix s.text (whole_of s capacity h)
text_in s capacity h = either (length h == capacity)
  where
    either : (t : Bool) → Prefix s.text (if t then with_general s else s.text)
    either true = (general_text s.due, refl)
    either false = same_prefix s.text

abbrev MatchDue : Option Call → Said → Said → Type 0
MatchDue None s t = Prefix s.text t.text
MatchDue (Some c) s t = t ≡ s

text_more : (s t : Said) (due : Option Call) → s.due ≡ due → Extends s t → Prefix s.text t.text
text_more s t None e h = subst (λ (o : Option Call). MatchDue o s t) e h
text_more s t (Some c) e h = subst (λ (x : Said). Prefix s.text x.text) (sym (subst (λ (o : Option Call). MatchDue o s t) e h)) (same_prefix s.text)

full_whole : (s : Said) (capacity : ℕ) (h : List Entry) → length h ≡ capacity → whole_of s capacity h ≡ with_general s
full_whole s capacity h full = ap (λ (t : Bool). if t then with_general s else s.text) (test (length h) capacity full)
  where
    test : (n c : ℕ) → n ≡ c → (n == c) ≡ true
    test n c e = grind (arith, nat_tests)

-- a reply that was not written whole, nor is the whole
short_whole : (s t : Said) (capacity : ℕ) (h : List Entry) (out : List ℕ) → Extends s t → ProperPrefix out s.text → ProperPrefix out (whole_of t capacity h)
short_whole s t capacity h out more short = proper_in out s.text _ short (prefix_in s.text t.text _ (text_more s t s.due refl more) (text_in t capacity h))

full_short : (s t : Said) (capacity : ℕ) (h : List Entry) (out : List ℕ) (due : Option Call) → s.due ≡ due → Extends s t → length h ≡ capacity → ProperPrefix out (with_general s)
    → ProperPrefix out (whole_of t capacity h)
full_short s t capacity h out None e more full short =
    short_whole s t capacity h out more (subst (ProperPrefix out) (ap (λ (o : Option Call). s.text ++ general_text o) e ∙ append-nil s.text) short)
full_short s t capacity h out (Some c) e more full short =
    let same : t ≡ s = subst (λ (o : Option Call). MatchDue o s t) e more in
    subst (ProperPrefix out) (sym (full_whole t capacity h full ∙ ap with_general same)) short

-- nothing is due: the whole is the text
quiet_whole : (s : Said) (capacity : ℕ) (h : List Entry) → s.due ≡ None → whole_of s capacity h ≡ s.text
quiet_whole s capacity h none = either (length h == capacity)
  where
    either : (t : Bool) → (if t then with_general s else s.text) ≡ s.text
    either true = ap (λ (o : Option Call). s.text ++ general_text o) none ∙ append-nil s.text
    either false = refl

-- ---- the ending
clean_end : (part : List ℕ) (capacity : ℕ) (due : Option Call) → due ≡ None → part ≡ [] → end_of part capacity due ≡ Clean
clean_end part capacity due none empty = ap (end_of part capacity) none ∙ ap (λ (x : List ℕ). end_of x capacity None) empty

cut_end : (part : List ℕ) (capacity : ℕ) (due : Option Call) (have need : ℕ) → due ≡ None → 0 < length part → CutAt part have need
    → end_of part capacity due ≡ Cut have need
cut_end part capacity due have need none some at =
    ap (end_of part capacity) none
    ∙ ap (λ (t : Bool). if t then Clean else cut_of part) (test (length part) some)
    ∙ either (nat_lt (length part) 8) at
  where
    test : (n : ℕ) → 0 < n → (n == 0) ≡ false
    test n h = grind (arith, nat_tests)

    behind : (n h : ℕ) → h + 8 ≡ n → n - 8 ≡ h
    behind n h e = omega (arith, e)

    either : (t : Bool) → MatchBool t ((have ≡ length part) × (need ≡ 8)) ((have + 8 ≡ length part) × (need ≡ body_size part))
        → (if t then Cut (length part) 8 else Cut (length part - 8) (body_size part)) ≡ Cut have need
    either true (a, b) = ap (λ n. Cut n 8) (sym a) ∙ ap (Cut have) (sym b)
    either false (a, b) = ap (λ n. Cut n (body_size part)) (behind (length part) have a) ∙ ap (Cut have) (sym b)

-- ---- an end in a room
-- Of a link without faults but where its room ends: the bytes that it had, those that were read and written, and the room.
module _ (s : Setting) (input read later out : List ℕ) (all : input ≡ read ++ later) (es h : List Entry) (now room : ℕ) (seen : length h ≡ s.entries)
    (taken : now + length out ≡ room) where
  abbrev said : Said
  said = walk s.connection (messages read) (replies_of es)

  abbrev told : Said
  told = walk s.connection (messages input) (replies_of es)

  goes_on : Extends said told
  goes_on = subst (λ (x : List ℕ). Extends said (walk s.connection (messages x) (replies_of es))) (sym all) (said_more s.connection read later (replies_of es))

  -- all of the input was read
  all_said : later ≡ [] → told ≡ said
  all_said none = ap (λ (x : List ℕ). walk s.connection (messages x) (replies_of es)) (all ∙ ap (λ x. read ++ x) none ∙ append-nil read)

  all_rest : later ≡ [] → rest input ≡ rest read
  all_rest none = ap (λ (x : List ℕ). rest x) (all ∙ ap (λ x. read ++ x) none ∙ append-nil read)

  abbrev finish : Finish
  finish = ends_in (Some room) (whole_of told s.capacity h) (end_of (rest input) s.capacity told.due)

  -- all that is to be said was written
  written_whole : (ending : Ending) → whole_of told s.capacity h ≡ out → end_of (rest input) s.capacity told.due ≡ ending
      → finish ≡ record { ending = ending; written = out }
  written_whole ending whole end =
      ap (λ (x : List ℕ). ends_in (Some room) x (end_of (rest input) s.capacity told.due)) whole
      ∙ ap (ends_in (Some room) out) end
      ∙ fits out room ending (omega (arith, taken))

  quiet : (ending : Ending) → said.due ≡ None → later ≡ [] → out ≡ said.text → end_of (rest read) s.capacity said.due ≡ ending
      → finish ≡ record { ending = ending; written = out }
  quiet ending none read_all whole end =
      written_whole ending
      (ap (λ (x : Said). whole_of x s.capacity h) (all_said read_all) ∙ quiet_whole said s.capacity h none ∙ sym whole)
      (ap (λ (x : List ℕ). end_of x s.capacity told.due) (all_rest read_all) ∙ ap (λ (x : Said). end_of (rest read) s.capacity x.due) (all_said read_all) ∙ end)

  -- the journal was full when the due call came
  filled : (c : Call) → said.due ≡ Some c → told ≡ said → FoundFull s → out ≡ said.text ++ spell c.app (reply.Error fault.General)
      → finish ≡ record { ending = Full s.capacity; written = out }
  filled c one t found whole =
      written_whole (Full s.capacity)
      (full_whole told s.capacity h (seen ∙ found) ∙ ap with_general t ∙ ap (λ (o : Option Call). said.text ++ general_text o) one ∙ sym whole)
      (ap (λ (x : Said). end_of (rest input) s.capacity x.due) t ∙ ap (end_of (rest input) s.capacity) one)

  -- a reply was not written whole
  broken : now ≡ 0 → ProperPrefix out said.text ⊎ (FoundFull s × ProperPrefix out (with_general said)) → finish ≡ record { ending = WriteFault; written = out }
  broken none (inl short) = breaks _ out room _ (short_whole said told s.capacity h out goes_on short) (omega (arith, taken, none))
  broken none (inr (found, short)) =
      breaks _ out room _ (full_short said told s.capacity h out said.due refl goes_on (seen ∙ found) short) (omega (arith, taken, none))

  -- The ending and the bytes written are those of the definition, where no read failed and no more than the cap was to be read.
  pub finishes : (ending : Ending) → EndsAs s read es said out ending → (Ended s.left → later ≡ [])
      → (ending ≡ ReadFault → ⊥) → ((bytes : ℕ) → ending ≡ Spent bytes → ⊥) → (ending ≡ WriteFault → now ≡ 0)
      → finish ≡ record { ending = ending; written = out }
  finishes Clean ends end reads spent writes = quiet Clean ends.0 (end ends.2) ends.3 (clean_end (rest read) s.capacity said.due ends.0 ends.1)
  finishes (Cut have need) ends end reads spent writes =
      quiet (Cut have need) ends.0 (end ends.2) ends.3 (cut_end (rest read) s.capacity said.due have need ends.0 ends.1 ends.4)
  finishes ReadFault ends end reads spent writes = absurd (reads refl)
  finishes (Spent bytes) ends end reads spent writes = absurd (spent bytes refl)
  finishes (Full count) ends end reads spent writes = by_due said.due refl ends.0
    where
      by_due : (due : Option Call) → said.due ≡ due → IsSomeAnd due (λ c. out ≡ said.text ++ spell c.app (reply.Error fault.General))
          → finish ≡ record { ending = Full count; written = out }
      by_due None e h = absurd h
      by_due (Some c) e h =
          filled c e (subst (λ (o : Option Call). MatchDue o said told) e goes_on) ends.1 h
          ∙ ap (λ (n : ℕ). record { ending = Full n; written = out }) (sym ends.2)
  finishes WriteFault ends end reads spent writes = broken (writes refl) ends.0
