-- A client's talk: what its steps come to.
use Rattle.std.proofs.Common.{◌≡◌, ℕ, ◌≤◌, List, length, Ok, Err, sym, ap, ◌∙◌, inl, inr, arith}
use Rattle.script.specs.Drafts.{Sending}
use Rattle.script.specs.Script.{script_of}
use Rattle.script.proofs.Sendable.{AreSendable, from_script}
use Rattle.qron_cli.specs.House.{Facts, file_limit}
use Rattle.qron_cli.specs.Files.{Holds, Gave}
use Rattle.qron_cli.specs.Stops.{StoppedAs}
use Rattle.qron_cli.specs.Statuses.{status_for}
use Rattle.qron_cli.specs.Talk.{SaysScript, NoScript, RefusesAsScript, CanTalk}
use Rattle.qron_cli.specs.declared.complaint.Complaint.{Complaint}
use Rattle.qron_cli.specs.declared.complaint.Complaint.TheVariants as complaint

-- what a file's script says can be sent
pub can_talk : (text : List ℕ) (script : List Sending) → script_of text ≡ Ok script → length text ≤ file_limit → CanTalk script
can_talk text script says few =
    let s : AreSendable (length text) script = from_script text script says in
    (omega (arith, s.few, few), s.each)

-- a file that was read to messages says them, and they can be sent
pub script_said : (facts : Facts) (name text read : List ℕ) (script : List Sending) → read ≡ text → Holds facts name text → script_of read ≡ Ok script
    → SaysScript facts name script × CanTalk script
script_said facts name text read script same held says =
    let means : script_of text ≡ Ok script = ap script_of (sym same) ∙ says in
    ((text, held, means), can_talk text script means held.few)

-- a script that could not be read, or is refused, stops the command
pub stopped_by_script : {A : Type 0} (says : A → Type 0) (name : List ℕ) (before after : Facts) (why : Complaint)
    → Gave says (RefusesAsScript before name) name before after (Err why) → StoppedAs (NoScript before name) before after (status_for why)
stopped_by_script says name before after complaint.Memory h = tt
stopped_by_script says name before after complaint.Fault h = h
stopped_by_script says name before after complaint.FileTooLong h = inr h
stopped_by_script says name before after complaint.Words h = absurd h
stopped_by_script says name before after (complaint.Settings why) h = absurd h
stopped_by_script says name before after (complaint.Schedule why) h = absurd h
stopped_by_script says name before after (complaint.Script why) h = inl (why, h)
