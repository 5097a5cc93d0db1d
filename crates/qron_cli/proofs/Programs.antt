-- What the words of the program come to.
use Rattle.std.proofs.Common.{◌≡◌, ◌≢◌, ℕ, List, ◌++◌, Option, None, Some, Bool, true, false, Ok, Err, refl, sym, subst, inl, inr}
use Rattle.std.specs.Prelude.{◌↔◌, IfSome, if◌then◌else◌, map}
use Rattle.std.specs.List.{list_any}
use Rattle.network_model.specs.declared.Entry.{Entry}
use Rattle.cqc_client.specs.declared.talking.Talked.{Talked}
use Rattle.cqc_client.specs.declared.talking.Talked.TheVariants as talked
use Rattle.script.specs.Drafts.{Sending}
use Rattle.session_model.specs.declared.Ending.{Ending}
use Rattle.session_model.specs.declared.Ending.TheVariants.{Clean, Cut, ReadFault, WriteFault, Full, Spent}
use Rattle.session_model.specs.Turns.{Finish}
use Rattle.node_table.specs.declared.settings.Settings.{Settings}
use Rattle.node_table.specs.Plain.{plain_settings}
use Rattle.schedule.specs.Plans.{Plans}
use Rattle.word_lines.specs.Lines.{Line, pipe, pipe_with, replay, serve, talk, drill}
use Rattle.qron_cli.specs.Drill.{drill_settings, drill_plans}
use Rattle.qron_cli.specs.House.{Ask, Facts, asks_of}
use Rattle.qron_cli.specs.Lines.{is_faulty, is_unfinished, ending_in}
use Rattle.qron_cli.specs.Pipe.{AllWords, PipeAnswered}
use Rattle.qron_cli.specs.Replay.{PlansPlayed, status_of_ends}
use Rattle.qron_cli.specs.Seats.{all_planned, ends_of}
use Rattle.cqc_server.specs.Watch.{LinkSeen}
use Rattle.qron_cli.specs.Printed.{Printed}
use Rattle.qron_cli.specs.Serve.{Report, NetworkServed, outcome_of_report, is_door_fault}
use Rattle.qron_cli.specs.Program.{Ran, Answered, MayAsk, IsIdle}
use Rattle.qron_cli.specs.Statuses.{status_of, outcome_of}
use Rattle.qron_cli.specs.declared.complaint.Complaint.TheVariants as complaint
use Rattle.qron_cli.specs.declared.status.Work.TheVariants as work
use Rattle.qron_cli.specs.Talk.{Spoke, outcome_of_talk}
use Rattle.qron_cli.specs.declared.status.Status.{Status}
use Rattle.qron_cli.specs.declared.status.Status.TheVariants.{Words, Memory}

-- a house that tells no asks may be asked for all
pub untold : (line : Option Line) (facts : Facts) → facts.asks ≡ None → MayAsk line facts
untold None facts e = tt
untold (Some line) facts e = subst (λ (asks : Option (List Ask)). IfSome asks (λ allowed. (others : List Ask) × (allowed ≡ asks_of facts line ++ others))) (sym e) tt

-- where memory was short before anything was done, that is all
pub short : (word : AllWords) (handed : LinkSeen → LinkSeen → Type 0) (reports : Settings → Report → Type 0) (line : Option Line) (before after : Facts) (old new : LinkSeen) → new ≡ old → Answered word handed reports (line) before after old new Memory
short word handed reports None before after old new e = (inr refl, e)
short word handed reports (Some pipe) before after old new e = inl (tt, e)
short word handed reports (Some (pipe_with s)) before after old new e = inl (tt, e)
short word handed reports (Some (replay s t)) before after old new e = inl (tt, e)
short word handed reports (Some (drill rounds)) before after old new e = inl (tt, e)
short word handed reports (Some (serve settings)) before after old new e = inl (tt, e)
short word handed reports (Some (talk place script)) before after old new e = inl (tt, e)

-- a session's status is none of those with which nothing is done
busy : (ending : Ending) → IsIdle (status_of (outcome_of ending)) → ⊥
busy Clean h = h
busy (Cut have need) h = h
busy ReadFault h = h
busy WriteFault h = h
busy (Full entries) h = h
busy (Spent bytes) h = h

busy_by : (faulty unfinished : Bool) → IsIdle (status_of (if faulty then Err complaint.Fault else (if unfinished then Ok work.Unfinished else Ok work.Done))) → ⊥
busy_by true unfinished h = h
busy_by false true h = h
busy_by false false h = h

-- nor is one of those that were printed
busy_ends : (ends : List (Option Finish)) → IsIdle (status_of_ends ends) → ⊥
busy_ends ends = busy_by (list_any is_faulty (map ending_in ends)) (list_any is_unfinished (map ending_in ends))

busy_printed : (text : List ℕ) (ends : List (Option Finish)) (old new : LinkSeen) (status : Status) → Printed text (status_of_ends ends) old new status → IsIdle status → ⊥
busy_printed text ends old new status p h =
    elim (p.ends) [ inl q ↦ busy_ends ends (subst IsIdle q.1 h) | inr q ↦ subst IsIdle q.2 h ]

busy_answered : (word : AllWords) (facts : Facts) (s : Settings) (old new : LinkSeen) (status : Status) → PipeAnswered word facts s old new status → IsIdle status → ⊥
busy_answered word facts s old new status (ending, served, is) h = busy ending (subst IsIdle is h)

busy_played : (word : AllWords) (facts : Facts) (s : Settings) (plans : Plans) (text : List Entry → List (Option Finish) → List ℕ) (old new : LinkSeen) (status : Status)
    → PlansPlayed word facts s plans text old new status → IsIdle status → ⊥
busy_played word facts s plans text old new status p h =
    let ends : List (Option Finish) = ends_of s.journal p.entries (all_planned word (facts.keys s.seed) 0 plans.plans) in
    busy_printed (text p.entries ends) ends old new status p.printed h

-- nor is a talk's
busy_talk : (answer : Talked) → IsIdle (status_of (outcome_of_talk answer)) → ⊥
busy_talk (talked.Done messages) h = h
busy_talk (talked.Cut message) h = h
busy_talk (talked.Strange message kind) h = h
busy_talk (talked.Spent message) h = h
busy_talk talked.LinkRead h = h
busy_talk talked.LinkWrite h = h
busy_talk talked.OutWrite h = h

busy_spoke : (script : List Sending) (first last old new : LinkSeen) (status : Status) → Spoke script first last old new status → IsIdle status → ⊥
busy_spoke script first last old new status spoke h = busy_talk spoke.answer (subst IsIdle spoke.is h)

-- nor is that of a network that was served
busy_by_doors : (doors faulty unfinished : Bool) → IsIdle (status_of (if doors then Err complaint.Fault else (if faulty then Err complaint.Fault else (if unfinished then Ok work.Unfinished else Ok work.Done)))) → ⊥
busy_by_doors true faulty unfinished h = h
busy_by_doors false faulty unfinished h = busy_by faulty unfinished h

busy_report : (r : Report) → IsIdle (status_of (outcome_of_report r)) → ⊥
busy_report r =
    let endings : List (Option Ending) = map (λ c. Some c.ending) r.connections in
    busy_by_doors (list_any is_door_fault r.ends) (list_any is_faulty endings) (list_any is_unfinished endings)

busy_served : (reports : Settings → Report → Type 0) (s : Settings) (old new : LinkSeen) (status : Status) → NetworkServed reports s old new status → IsIdle status → ⊥
busy_served reports s old new status (r, is, p) h =
    elim (p.ends) [ inl q ↦ busy_report r (subst IsIdle q.1 h) | inr q ↦ subst IsIdle q.2 h ]

-- a line whose status is one of those left the pipe as it was
pub idle : (word : AllWords) (handed : LinkSeen → LinkSeen → Type 0) (reports : Settings → Report → Type 0) (line : Line) (before after : Facts) (old new : LinkSeen) (status : Status) → Ran word handed reports line before after old new status → IsIdle status → new ≡ old
idle word handed reports pipe before after old new status (inl h) i = h.1
idle word handed reports pipe before after old new status (inr h) i = absurd (busy_answered word before (plain_settings 1) old new status h i)
idle word handed reports (pipe_with name) before after old new status (inl h) i = h.1
idle word handed reports (pipe_with name) before after old new status (inr h) i = absurd (busy_answered word before h.0 old new status h.2 i)
idle word handed reports (replay s t) before after old new status (inl h) i = h.1
idle word handed reports (replay s t) before after old new status (inr h) i = absurd (busy_played word before h.0 h.2 _ old new status h.4 i)
idle word handed reports (drill rounds) before after old new status (inl h) i = h.1
idle word handed reports (drill rounds) before after old new status (inr h) i = absurd (busy_played word before (drill_settings rounds) (drill_plans rounds) _ old new status h i)
idle word handed reports (serve settings) before after old new status (inl h) i = h.1
idle word handed reports (serve settings) before after old new status (inr h) i = absurd (busy_served reports h.0 old new status h.2 i)
idle word handed reports (talk place script) before after old new status (inl h) i = h.1
idle word handed reports (talk place script) before after old new status (inr h) i = absurd (busy_spoke h.0 h.2.0 h.2.1 old new status h.2.3 i)

-- a line that is done has another status than Words
never_words : (word : AllWords) (handed : LinkSeen → LinkSeen → Type 0) (reports : Settings → Report → Type 0) (line : Line) (before after : Facts) (old new : LinkSeen) → Ran word handed reports line before after old new Words → ⊥
never_words word handed reports pipe before after old new (inl h) = h.0
never_words word handed reports pipe before after old new (inr h) = busy_answered word before (plain_settings 1) old new Words h tt
never_words word handed reports (pipe_with name) before after old new (inl h) = h.0
never_words word handed reports (pipe_with name) before after old new (inr h) = busy_answered word before h.0 old new Words h.2 tt
never_words word handed reports (replay s t) before after old new (inl h) = h.0
never_words word handed reports (replay s t) before after old new (inr h) = busy_played word before h.0 h.2 _ old new Words h.4 tt
never_words word handed reports (drill rounds) before after old new (inl h) = h.0
never_words word handed reports (drill rounds) before after old new (inr h) = busy_played word before (drill_settings rounds) (drill_plans rounds) _ old new Words h tt
never_words word handed reports (serve settings) before after old new (inl h) = h.0
never_words word handed reports (serve settings) before after old new (inr h) = busy_served reports h.0 old new Words h.2 tt
never_words word handed reports (talk place script) before after old new (inl h) = h.0
never_words word handed reports (talk place script) before after old new (inr h) = busy_spoke h.0 h.2.0 h.2.1 old new Words h.2.3 tt

-- what is told of words is told of what stays
pub told_later : (word : AllWords) (handed : LinkSeen → LinkSeen → Type 0) (reports : Settings → Report → Type 0) (line : Option Line) (before between after : Facts) (old mid new : LinkSeen) (status result : Status)
    → Answered word handed reports line before between old mid status → after ≡ between → new ≡ mid → result ≡ status → Answered word handed reports line before after old new result
told_later word handed reports line before between after old mid new status result h told same is =
    subst (λ (x : Facts). Answered word handed reports line before x old new result) (sym told)
    (subst (λ (x : LinkSeen). Answered word handed reports line before between old x result) (sym same)
    (subst (λ (x : Status). Answered word handed reports line before between old mid x) (sym is) h))

-- the words are none of the lines exactly at status Words
pub words_told : (word : AllWords) (handed : LinkSeen → LinkSeen → Type 0) (reports : Settings → Report → Type 0) (line : Option Line) (before after : Facts) (old new : LinkSeen) (status : Status)
    → Answered word handed reports line before after old new status → status ≢ Memory → (status ≡ Words) ↔ (line ≡ None)
words_told word handed reports None before after old new status h other =
    (λ _. refl, λ _. elim (h.0) [ inl e ↦ e | inr e ↦ absurd (other e) ])
words_told word handed reports (Some line) before after old new status h other = (
  λ e. absurd (never_words word handed reports line before after old new (subst (λ (x : Status). Ran word handed reports line before after old new x) e h)),
  λ e. absurd (some_is_none e),
)
  where
    some_is_none : {A : Type 0} {a : A} → Some a ≡ None → ⊥
    some_is_none e = cc

-- where nothing is done, the pipe is as it was
pub idle_told : (word : AllWords) (handed : LinkSeen → LinkSeen → Type 0) (reports : Settings → Report → Type 0) (line : Option Line) (before after : Facts) (old new : LinkSeen) (status : Status)
    → Answered word handed reports line before after old new status → IsIdle status → new ≡ old
idle_told word handed reports None before after old new status h i = h.1
idle_told word handed reports (Some line) before after old new status h i = idle word handed reports line before after old new status h i

-- what is told of the words' line, if they are one
pub ran_told : (word : AllWords) (handed : LinkSeen → LinkSeen → Type 0) (reports : Settings → Report → Type 0) (line : Option Line) (before after : Facts) (old new : LinkSeen) (status : Status)
    → Answered word handed reports line before after old new status → IfSome line (λ l. Ran word handed reports l before after old new status)
ran_told word handed reports None before after old new status h = tt
ran_told word handed reports (Some line) before after old new status h = h
