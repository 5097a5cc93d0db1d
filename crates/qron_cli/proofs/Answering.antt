-- How the outcomes of a command's steps make its own.
use Rattle.std.proofs.Common.{◌≡◌, ℕ, ◌≤◌, List, [], length, Option, Result, Ok, Err, sym, ap, subst, ◌∙◌, inl, inr, arith}
use Rattle.std.specs.Prelude.{IsErrAnd}
use Rattle.session_model.specs.declared.Ending.{Ending}
use Rattle.factored_core.specs.Core.{Journal}
use Rattle.session_model.specs.Turns.{Finish}
use Rattle.network_model.specs.declared.Entry.{Entry}
use Rattle.schedule.specs.Plans.{Plans}
use Rattle.node_table.specs.declared.settings.Settings.{Settings}
use Rattle.qron_cli.specs.House.{Facts, WasAsked}
use Rattle.qron_cli.specs.Files.{SaysSettings, NoSettings, SaysSchedule, NoSchedule, Gave, RefusesNothing, RefusesAsSettings, RefusesAsSchedule}
use Rattle.qron_cli.specs.Pipe.{AllWords, journal_of, PipeServed, PipeAnswered, PipeRan, PipeWithRan}
use Rattle.qron_cli.specs.Replay.{Played, PlansPlayed, Replayed, ReplayRan, ReplayWithRan, NoReplay, ReplayFilesRan}
use Rattle.qron_cli.specs.Seats.{all_planned}
use Rattle.cqc_server.specs.Watch.{LinkSeen}
use Rattle.qron_cli.specs.Stops.{StoppedAs, Stopped}
use Rattle.qron_cli.specs.Statuses.{status_of, status_for, outcome_of}
use Rattle.qron_cli.proofs.Asking.{says_before, refuses_before}
use Rattle.qron_cli.specs.declared.complaint.Complaint.{Complaint}
use Rattle.qron_cli.specs.declared.complaint.Complaint.TheVariants as complaint
use Rattle.qron_cli.specs.declared.status.Work.{Work}
use Rattle.qron_cli.specs.declared.status.Status.{Status}
use Rattle.qron_cli.specs.declared.status.Status.TheVariants.{Done, Refused, Words, Memory, Fault, Unfinished}

-- a file of settings that could not be read, or is refused, stops the command
pub stopped_by_settings : {A : Type 0} (says : A → Type 0) (name : List ℕ) (before after : Facts) (why : Complaint)
    → Gave says (RefusesAsSettings before name) name before after (Err why) → StoppedAs (NoSettings before name) before after (status_for why)
stopped_by_settings says name before after complaint.Memory h = tt
stopped_by_settings says name before after complaint.Fault h = h
stopped_by_settings says name before after complaint.FileTooLong h = inr h
stopped_by_settings says name before after complaint.Words h = absurd h
stopped_by_settings says name before after (complaint.Settings why) h = inl (why, h)
stopped_by_settings says name before after (complaint.Schedule why) h = absurd h
stopped_by_settings says name before after (complaint.Script why) h = absurd h

-- so does a schedule
pub stopped_by_schedule : {A : Type 0} (says : A → Type 0) (name : List ℕ) (nodes : ℕ) (before after : Facts) (why : Complaint)
    → Gave says (RefusesAsSchedule before name nodes) name before after (Err why) → StoppedAs (NoSchedule before name nodes) before after (status_for why)
stopped_by_schedule says name nodes before after complaint.Memory h = tt
stopped_by_schedule says name nodes before after complaint.Fault h = h
stopped_by_schedule says name nodes before after complaint.FileTooLong h = inr h
stopped_by_schedule says name nodes before after complaint.Words h = absurd h
stopped_by_schedule says name nodes before after (complaint.Settings why) h = absurd h
stopped_by_schedule says name nodes before after (complaint.Script why) h = absurd h
stopped_by_schedule says name nodes before after (complaint.Schedule why) h = inl (why, h)

-- a command that was stopped, and answers why
pub stopped_at : (r : Result Work Complaint) (why : Complaint) (refused : Type 0) (before after : Facts) (old new : LinkSeen)
    → IsErrAnd r (λ e. e ≡ why) → StoppedAs refused before after (status_for why) → new ≡ old → Stopped refused before after old new (status_of r)
stopped_at (Ok done) why refused before after old new h stopped same = absurd h
stopped_at (Err e) why refused before after old new h stopped same =
    (subst (λ (x : Complaint). StoppedAs refused before after (status_for x)) (sym h) stopped, same)

-- what stopped a command behind the reading of a file stopped it
pub stopped_later : (later refused : Type 0) (before between after : Facts) (status : Status) → before.faults ≤ between.faults
    → (later → refused) → StoppedAs later between after status → StoppedAs refused before after status
stopped_later later refused before between after Memory more weaken h = tt
stopped_later later refused before between after Fault more weaken h = omega (arith, h)
stopped_later later refused before between after Refused more weaken h = weaken h
stopped_later later refused before between after Done more weaken h = absurd h
stopped_later later refused before between after Words more weaken h = absurd h
stopped_later later refused before between after Unfinished more weaken h = absurd h

-- a file that could not be read, whatever it should say
pub unread : {A B : Type 0} (says : A → Type 0) (means : B → Type 0) (refuses : Complaint → Type 0) (name : List ℕ) (before after : Facts) (why : Complaint)
    → Gave says RefusesNothing name before after (Err why) → Gave means refuses name before after (Err why)
unread says means refuses name before after complaint.Memory h = tt
unread says means refuses name before after complaint.Fault h = h
unread says means refuses name before after complaint.FileTooLong h = h
unread says means refuses name before after complaint.Words h = absurd h
unread says means refuses name before after (complaint.Settings why) h = absurd h
unread says means refuses name before after (complaint.Schedule why) h = absurd h
unread says means refuses name before after (complaint.Script why) h = absurd h

-- what a session of the opened core came to, for the settings that it was opened with
pub answered : (word : AllWords) (facts : Facts) (s : Settings) (j : Journal) (key : List ℕ) (was is old new : LinkSeen) (ending : Ending) (outcome : Result Work Complaint)
    → PipeServed j.shape j.capacity (λ k. word key 0 0 k) was is ending → j ≡ journal_of s [] → key ≡ facts.keys s.seed → was ≡ old → is ≡ new → outcome ≡ outcome_of ending
    → PipeAnswered word facts s old new (status_of outcome)
answered word facts s j key was is old new ending outcome served opened by_seed first last came = (
  ending,
  subst (λ (k : List ℕ). PipeServed s.shape s.journal (λ n. word k 0 0 n) old new ending) by_seed
      (subst (λ (x : Journal). PipeServed x.shape x.capacity (λ n. word key 0 0 n) old new ending) opened
      (subst (λ (x : LinkSeen). PipeServed j.shape j.capacity (λ n. word key 0 0 n) x new ending) first
      (subst (λ (x : LinkSeen). PipeServed j.shape j.capacity (λ n. word key 0 0 n) was x ending) last served))),
  ap status_of came,
)

-- what was served behind the reading of a file was served with the keys that were told before it
pub answered_before : (word : AllWords) (s : Settings) (before between : Facts) (old new : LinkSeen) (status : Status) → between.keys ≡ before.keys
    → PipeAnswered word between s old new status → PipeAnswered word before s old new status
answered_before word s before between old new status same (ending, served, is) =
    (ending, subst (λ (keys : List ℕ → List ℕ). PipeServed s.shape s.journal (λ k. word (keys s.seed) 0 0 k) old new ending) same served, is)

-- the same of connections that took turns
pub played_before : (word : AllWords) (s : Settings) (plans : Plans) (text : List Entry → List (Option Finish) → List ℕ) (before between : Facts) (old new : LinkSeen) (status : Status)
    → between.keys ≡ before.keys → PlansPlayed word between s plans text old new status → PlansPlayed word before s plans text old new status
played_before word s plans text before between old new status same p =
    subst (λ (keys : List ℕ → List ℕ). Played s.shape s.journal (all_planned word (keys s.seed) 0 plans.plans) plans.order text old new status) same p

-- what the pipe command does behind the reading of its settings
pub pipe_with_file : (word : AllWords) (name : List ℕ) (s : Settings) (before between after : Facts) (old mid new : LinkSeen) (status : Status) → WasAsked before between
    → SaysSettings before name s → mid ≡ old → PipeRan word s between after mid new status → PipeWithRan word name before after old new status
pipe_with_file word name s before between after old mid new status asked says same (inl (h, e)) =
    inl (stopped_later ⊥ (NoSettings before name) before between after status asked.faults (λ x. absurd x) h, e ∙ same)
pipe_with_file word name s before between after old mid new status asked says same (inr p) =
    inr (s, says, answered_before word s before between old new status asked.keys (subst (λ (x : LinkSeen). PipeAnswered word between s x new status) same p))

-- what a replay does behind the reading of its schedule
pub replay_with_schedule : (word : AllWords) (s : Settings) (name : List ℕ) (plans : Plans) (before between after : Facts) (old mid new : LinkSeen) (status : Status) → WasAsked before between
    → SaysSchedule before name (length s.shape.places) plans → mid ≡ old → ReplayRan word s plans between after mid new status → ReplayWithRan word s name before after old new status
replay_with_schedule word s name plans before between after old mid new status asked says same (inl (h, e)) =
    inl (stopped_later ⊥ (NoSchedule before name (length s.shape.places)) before between after status asked.faults (λ x. absurd x) h, e ∙ same)
replay_with_schedule word s name plans before between after old mid new status asked says same (inr p) =
    inr (plans, says, played_before word s plans _ before between old new status asked.keys (subst (λ (x : LinkSeen). Replayed word between s plans x new status) same p))

-- and behind the reading of its settings
pub replay_with_files : (word : AllWords) (s : Settings) (settings schedule : List ℕ) (before between after : Facts) (old mid new : LinkSeen) (status : Status) → WasAsked before between
    → SaysSettings before settings s → mid ≡ old → ReplayWithRan word s schedule between after mid new status → ReplayFilesRan word settings schedule before after old new status
replay_with_files word s settings schedule before between after old mid new status asked says same (inl (h, e)) =
    inl (
      stopped_later (NoSchedule between schedule (length s.shape.places)) (NoReplay before settings schedule) before between after status asked.faults
          (λ no. inr (s, says, refuses_before before between schedule (length s.shape.places) asked no)) h,
      e ∙ same,
    )
replay_with_files word s settings schedule before between after old mid new status asked says same (inr (plans, scheduled, p)) =
    inr (
      s,
      says,
      plans,
      says_before before between schedule (length s.shape.places) plans asked scheduled,
      played_before word s plans _ before between old new status asked.keys (subst (λ (x : LinkSeen). Replayed word between s plans x new status) same p),
    )
