-- Sending one message: it fits its room, a part of it was written, or all, and its replies were heard.
use Rattle.std.proofs.Common.{◌≡◌, ℕ, ◌*◌, ◌<◌, ◌≤◌, List, [], ◌∷◌, ◌++◌, length, take, drop, false, Option, Ok, Err, Result, refl, ap, ◌∙◌, arith, length-append, length-drop}
use Rattle.std.proofs.lemmas.List.{take-append-drop}
use Rattle.cqc_model.specs.declared.Command.{Command}
use Rattle.cqc_model.specs.declared.Head.{Head}
use Rattle.cqc_model.specs.declared.Head.TheVariants as head
use Rattle.cqc_model.specs.Wire.{spell_command, spell_list, spell_message, message_body}
use Rattle.cqc_model.specs.Ranges.{MayCarry}
use Rattle.cqc_model.specs.Plan.{body_limit, command_limit}
use Rattle.script.specs.Drafts.{Sending}
use Rattle.script.specs.Sendable.{IsSendable}
use Rattle.qron_link.specs.Outside.{WasWritten}
use Rattle.qron_link.specs.Transfers.{Sent}
use Rattle.qron_link.proofs.Known.{read_none, written_none}
use Rattle.cqc_client.specs.declared.stops.Stop.{Stop}
use Rattle.cqc_client.specs.declared.stops.Stop.TheVariants as stop
use Rattle.cqc_client.specs.Talk.{Said, Moved, app_of}
use Rattle.cqc_client.specs.Stops.{Sends, Hears, Exchanges, StopReads, StopPrints}

list_long : (list : List Command) → 4 * length list ≤ length (spell_list list)
list_long [] = omega arith
list_long (c ∷ cs) = omega (arith, length-append (spell_command c) (spell_list cs), list_long cs)

few_by : (h : Head) (list : List Command) → MayCarry h list → length (message_body h list) ≤ body_limit → length list ≤ command_limit
few_by (head.Hello app) list a s = omega (arith, ap (λ (x : List Command). length x) a)
few_by (head.Commands app) list a s = omega (arith, list_long list)
few_by (head.Factory app repeats notify) list a s = omega (arith, list_long list)

pub few_commands : (m : Sending) → IsSendable m → length m.list ≤ command_limit
few_commands m s = few_by m.head m.list s.alone s.size

-- a front of a text was written
pub half : (old new : Option (List ℕ)) (piece text : List ℕ) (done : ℕ) → piece ≡ text → Sent false old new piece done
    → (front : List ℕ) × (missing : List ℕ) × WasWritten old front new × (front ++ missing ≡ text) × (0 < length missing)
half old new piece text done e s = (take done piece, drop done piece, s.wrote, take-append-drop done piece ∙ e, omega (arith, length-drop done piece, s.part refl))

-- what came of sending a message in part
pub record OnlySent (s : Stop) (m : Sending) (left left_new held held_new out : Option (List ℕ)) (now : ℕ) : Type 0 where
  pub said : Said
  pub moved : Moved said left left_new held held_new out out
  pub nothing : length said.read ≡ 0
  pub exchanges : Exchanges (Err s) m said left_new now

pub only_sent : (s : Stop) (m : Sending) (left left_new held held_new out : Option (List ℕ)) (now : ℕ) → left_new ≡ left → Sends (Err s) m held held_new
    → OnlySent s m left left_new held held_new out now
only_sent stop.NotSent m left left_new held held_new out now e f = record {
  said = record { read = []; sent = f.0; printed = [] };
  moved = record { read = read_none left left_new e; sent = f.2; printed = written_none out out refl };
  nothing = refl;
  exchanges = record { missing = f.1; sent = f.3; some = f.4; read = refl; printed = refl };
}
only_sent _ m left left_new held held_new out now e f = absurd f

-- no other count is touched
pub only_reads : (s : Stop) (m : Sending) (held held_new : Option (List ℕ)) (a b : ℕ) → a ≤ b → Sends (Err s) m held held_new → StopReads s a b
only_reads stop.NotSent m held held_new a b h f = h
only_reads _ m held held_new a b h f = absurd f

pub only_prints : (s : Stop) (m : Sending) (held held_new : Option (List ℕ)) (a b : ℕ) → a ≤ b → Sends (Err s) m held held_new → StopPrints s a b
only_prints stop.NotSent m held held_new a b h f = h
only_prints _ m held held_new a b h f = absurd f

-- all of it was sent, and replies were heard
pub exchanged : (r : Result (Unit {0}) Stop) (m : Sending) (said : Said) (left : Option (List ℕ)) (now : ℕ) → said.sent ≡ spell_message m.head m.list
    → Hears r (app_of m) said.read said.printed left now → Exchanges r m said left now
exchanged (Ok u) m said left now e h = record { sent = e; hears = h }
exchanged (Err stop.NotSent) m said left now e h = absurd (h.stops.0)
exchanged (Err _) m said left now e h = record { sent = e; hears = h }
