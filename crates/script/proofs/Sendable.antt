-- The messages that a script says can be sent: `from_script`.
use Rattle.std.proofs.Common.{◌≡◌, ℕ, ◌+◌, ◌≤◌, Bool, true, false, if◌then◌else◌, ◌==◌, nat_le, List, [], ◌∷◌, length, Option, Some, None, Result, Ok, Err, IfOk, All, refl, arith, length-append, subst}
use Rattle.std.proofs.lemmas.Bool.Decides.{nat_tests}
use Rattle.std.proofs.lemmas.List.Elements.{All-nil, All-push}
use Rattle.cqc_model.specs.declared.Command.{Command}
use Rattle.cqc_model.specs.declared.Head.{Head}
use Rattle.cqc_model.specs.declared.Head.TheVariants as head
use Rattle.cqc_model.specs.Wire.{message_body}
use Rattle.cqc_model.specs.Ranges.{MayCarry}
use Rattle.cqc_model.specs.Plan.{body_limit}
use Rattle.std.specs.List.{onto_first}
use Rattle.text_lines.specs.Lines.{lines, content, is_line_feed}
use Rattle.text_lines.specs.Words.{words, number_up_to}
use Rattle.text_lines.specs.Reading.{◌>>=◌, ◌or◌, after_line, read_lines, is_passed_over}
use Rattle.script.specs.declared.verb.Verb.{Verb}
use Rattle.script.specs.declared.verb.Verb.TheVariants as verb
use Rattle.script.specs.declared.fault.ScriptWhy.{ScriptWhy}
use Rattle.script.specs.declared.fault.ScriptWhy.TheVariants.{Word, Number, Pending}
use Rattle.script.specs.Verbs.{verb_of}
use Rattle.script.specs.Commands.{id_in, command_in}
use Rattle.script.specs.Drafts.{Draft, Sending, no_draft, with_message, notify_last}
use Rattle.script.specs.Script.{send, app_line, hello_line, go_line, factory_line, command_line, verb_line, line_of, take_line, at_end, script_of}
use Rattle.script.specs.Sendable.{IsSendable}

-- the messages so far can be sent, and are at most so many
pub record Good (n : ℕ) (d : Draft) : Type 0 where
  pub each : All IsSendable d.messages
  pub few : length d.messages ≤ n

abbrev Keeps : ℕ → Result Draft ScriptWhy → Type 0
Keeps n r = IfOk r (Good n)

by_test : (n : ℕ) (b : Bool) (x y : Result Draft ScriptWhy) → (b ≡ true → Keeps n x) → Keeps n y → Keeps n (if b then x else y)
by_test n true x y f g = f refl
by_test n false x y f g = g

push : (n : ℕ) (d : Draft) (h : Head) (list : List Command) → Good n d → IsSendable (record { head = h; list = list }) → Good (n + 1) (with_message d h list)
push n d h list g s = record {
  each = All-push IsSendable d.messages (record { head = h; list = list }) g.each s;
  few = omega (arith, g.few, length-append d.messages (record { head = h; list = list } ∷ []));
}

later : (n : ℕ) (d : Draft) → Good n d → Good (n + 1) d
later n d g = record { each = g.each; few = omega (arith, g.few) }

fits : (a b : ℕ) → nat_le a b ≡ true → a ≤ b
fits a b t = grind (arith, nat_tests)

sent : (n : ℕ) (d : Draft) (h : Head) (list : List Command) → MayCarry h list → Good n d → Keeps (n + 1) (send d h list)
sent n d h [] m g = tt
sent n d h (c ∷ list) m g =
    by_test (n + 1) (nat_le (length (message_body h (c ∷ list))) body_limit) _ _
    (λ t. push n d h (c ∷ list) g (record { alone = m; size = fits (length (message_body h (c ∷ list))) body_limit t })) tt

app_set : (n : ℕ) (d : Draft) (o : Option ℕ) → Good n d → Keeps (n + 1) ((o or Number) >>= (λ app. Ok (record d { app = app })))
app_set n d (Some app) g = record { each = g.each; few = omega (arith, g.few) }
app_set n d None g = tt

app_keeps : (n : ℕ) (d : Draft) (operands : List (List ℕ)) → Good n d → Keeps (n + 1) (app_line d operands)
unfolding app_line
app_keeps n d [] g = tt
app_keeps n d (x ∷ []) g = app_set n d (id_in x) g
app_keeps n d (x ∷ y ∷ others) g = tt

hello_keeps : (n : ℕ) (d : Draft) (operands : List (List ℕ)) → Good n d → Keeps (n + 1) (hello_line d operands)
hello_keeps n d [] g =
    by_test (n + 1) (length d.pending == 0) _ _ (λ t. push n d (head.Hello d.app) [] g (record { alone = refl; size = omega arith })) tt
hello_keeps n d (x ∷ others) g = tt

go_keeps : (n : ℕ) (d : Draft) (operands : List (List ℕ)) → Good n d → Keeps (n + 1) (go_line d operands)
go_keeps n d [] g = sent n d (head.Commands d.app) (notify_last d.pending) tt g
go_keeps n d (x ∷ others) g = tt

factory_set : (n : ℕ) (d : Draft) (o : Option ℕ) → Good n d → Keeps (n + 1) ((o or Number) >>= (λ repeats. send d (head.Factory d.app repeats true) d.pending))
factory_set n d (Some repeats) g = sent n d (head.Factory d.app repeats true) d.pending tt g
factory_set n d None g = tt

factory_keeps : (n : ℕ) (d : Draft) (operands : List (List ℕ)) → Good n d → Keeps (n + 1) (factory_line d operands)
unfolding factory_line
factory_keeps n d [] g = tt
factory_keeps n d (x ∷ []) g = factory_set n d (number_up_to 255 x) g
factory_keeps n d (x ∷ y ∷ others) g = tt

command_keeps : (n : ℕ) (d : Draft) (operands : List (List ℕ)) (r : Result Command ScriptWhy) → Good n d → Keeps (n + 1) (command_line d operands r)
unfolding command_line
command_keeps n d operands (Ok c) g = record { each = g.each; few = omega (arith, g.few) }
command_keeps n d operands (Err why) g = tt

verb_keeps : (n : ℕ) (d : Draft) (operands : List (List ℕ)) (v : Verb) → Good n d → Keeps (n + 1) (verb_line d operands v)
verb_keeps n d operands verb.App g = app_keeps n d operands g
verb_keeps n d operands verb.Hello g = hello_keeps n d operands g
verb_keeps n d operands verb.Go g = go_keeps n d operands g
verb_keeps n d operands verb.Factory g = factory_keeps n d operands g
verb_keeps n d operands (verb.Command kind) g = command_keeps n d operands (command_in kind operands) g

word_keeps : (n : ℕ) (d : Draft) (operands : List (List ℕ)) (o : Option Verb) → Good n d → Keeps (n + 1) ((o or Word) >>= verb_line d operands)
word_keeps n d operands (Some v) g = verb_keeps n d operands v g
word_keeps n d operands None g = tt

words_keep : (n : ℕ) (d : Draft) (ws : List (List ℕ)) → Good n d → Keeps (n + 1) (line_of d ws)
words_keep n d [] g = tt
words_keep n d (w ∷ operands) g = word_keeps n d operands (verb_of w) g

line_keeps : (n : ℕ) (d : Draft) (line : List ℕ) → Good n d → Keeps (n + 1) (take_line d line)
line_keeps n d line g = by_test (n + 1) (is_passed_over (content line)) _ _ (λ t. later n d g) (words_keep n d (words (content line)) g)

abbrev KeepsAll : ℕ → Result Draft (ℕ × ScriptWhy) → Type 0
KeepsAll n r = IfOk r (Good n)

after_keeps : (n m number : ℕ) (r : Result Draft ScriptWhy) (f : Draft → Result Draft (ℕ × ScriptWhy)) → Keeps n r
    → ((d : Draft) → Good n d → KeepsAll m (f d)) → KeepsAll m (after_line number r f)
after_keeps n m number (Ok d) f k others = others d k
after_keeps n m number (Err why) f k others = tt

lines_keep : (ls : List (List ℕ)) (n number m : ℕ) (d : Draft) → m ≡ n + length ls → Good n d → KeepsAll m (read_lines take_line number d ls)
lines_keep [] n number m d e g = record { each = g.each; few = omega (arith, g.few) }
lines_keep (line ∷ others) n number m d e g =
    after_keeps (n + 1) m number (take_line d line) (λ next. read_lines take_line (number + 1) next others) (line_keeps n d line g)
    (λ next k. lines_keep others (n + 1) (number + 1) m next (omega arith) k)

first_few : (c : ℕ) (ls : List (List ℕ)) → length (onto_first c ls) ≤ 1 + length ls
first_few c [] = omega arith
first_few c (l ∷ ls) = omega arith

feed_few : (c : ℕ) (text : List ℕ) (b : Bool) → length (lines text) ≤ length text
    → length (if b then (c ∷ []) ∷ lines text else onto_first c (lines text)) ≤ length (c ∷ text)
feed_few c text true h = omega (arith, h)
feed_few c text false h = omega (arith, h, first_few c (lines text))

lines_few : (text : List ℕ) → length (lines text) ≤ length text
lines_few [] = omega arith
lines_few (c ∷ text) = feed_few c text (is_line_feed c) (lines_few text)

-- what a script says, where it says messages
pub record AreSendable (n : ℕ) (messages : List Sending) : Type 0 where
  pub each : All IsSendable messages
  pub few : length messages ≤ n

end_keeps : (n number : ℕ) (r : Result Draft (ℕ × ScriptWhy)) → KeepsAll n r → IfOk (at_end number r) (AreSendable n)
end_keeps n number (Ok d) k = by_pending (length d.pending == 0)
  where
    by_pending : (b : Bool) → IfOk {E = ℕ × ScriptWhy} (if b then Ok d.messages else Err (number, Pending)) (AreSendable n)
    by_pending true = record { each = k.each; few = k.few }
    by_pending false = tt
end_keeps n number (Err refusal) k = tt

pub from_script : (text : List ℕ) (messages : List Sending) → script_of text ≡ Ok messages → AreSendable (length text) messages
from_script text messages e =
    let all : KeepsAll (length (lines text)) (read_lines take_line 1 no_draft (lines text)) =
    lines_keep (lines text) 0 1 (length (lines text)) no_draft (omega arith) (record { each = All-nil IsSendable; few = omega arith }) in
    let a : AreSendable (length (lines text)) messages =
    subst (λ (r : Result (List Sending) (ℕ × ScriptWhy)). IfOk r (AreSendable (length (lines text)))) e
    (end_keeps (length (lines text)) (length (lines text) + 1) (read_lines take_line 1 no_draft (lines text)) all) in
    record { each = a.each; few = omega (arith, a.few, lines_few text) }
