-- A network that is served: its report, and what the command comes to.
use Rattle.std.proofs.Common.{◌≡◌, ℕ, suc, ◌+◌, ◌<◌, List, [], ◌∷◌, ◌++◌, length, get_or, take, map, Option, None, Some, Bool, false, Result, Err, refl, sym, ap, subst, ◌∙◌, inl, inr, arith, take-suc}
use Rattle.std.specs.Prelude.{◌⊎◌, IfSome, if◌then◌else◌}
use Rattle.std.specs.List.{list_any, flat_map}
use Rattle.std.proofs.lemmas.List.{map-append}
use Rattle.cqc_client.proofs.Hearings.{flat_map_push}
use Rattle.session_model.specs.declared.Ending.{Ending}
use Rattle.node_table.specs.declared.settings.Settings.{Settings}
use Rattle.cqc_server.specs.Watch.{LinkSeen, Watch}
use Rattle.cqc_server.specs.declared.record.Served.{Served}
use Rattle.cqc_server.specs.declared.record.WorkerEnd.{WorkerEnd}
use Rattle.qron_cli.specs.Files.{SaysSettings, NoSettings}
use Rattle.qron_cli.specs.House.{Facts, WasAsked}
use Rattle.qron_cli.specs.Lines.{outcome_of_all}
use Rattle.qron_cli.specs.Serve.{Left, WasServed, Shown, shown, report_of, shown_line, is_door_fault, outcome_of_report, Reported, Reports, NetworkServed, ServeFileRan}
use Rattle.qron_cli.specs.Stops.{StoppedAs, Stopped}
use Rattle.qron_cli.proofs.Answering.{stopped_later}
use Rattle.qron_cli.specs.declared.complaint.Complaint.{Complaint}
use Rattle.qron_cli.specs.declared.complaint.Complaint.TheVariants.{Fault}
use Rattle.qron_cli.specs.declared.status.Work.{Work}
use Rattle.qron_cli.specs.declared.status.Status.{Status}

-- the line of the next connection behind those in front of it
pub shown_next : {L : Type 0} (served : List (Served L)) (n : ℕ) (d : Served L) (before more after : List ℕ) → n < length served
    → before ≡ flat_map shown_line (map shown (take n served)) → more ≡ shown_line (shown (get_or served n d)) → after ≡ before ++ more
    → after ≡ flat_map shown_line (map shown (take (n + 1) served))
shown_next {L} served n d before more after few so_far one is =
    let front : List Shown = map shown (take n served) in
    let next : take (n + 1) served ≡ take n served ++ get_or served n d ∷ [] = ap (λ m. take m served) (plus n) ∙ take-suc served n d few in
    let all : map shown (take (n + 1) served) ≡ front ++ shown (get_or served n d) ∷ [] =
    ap (λ (xs : List (Served L)). map shown xs) next ∙ map-append shown (take n served) (get_or served n d ∷ []) in
    is ∙ ap (λ x. x ++ more) so_far
    ∙ ap (λ x. flat_map shown_line front ++ x) one
    ∙ sym (flat_map_push shown_line front (shown (get_or served n d)))
    ∙ ap (flat_map shown_line) (sym all)
  where
    plus : (n : ℕ) → n + 1 ≡ suc n
    plus n = omega arith

-- the endings that are reported are those of the connections
endings_shown : {L : Type 0} (served : List (Served L)) → map (λ (c : Shown). Some c.ending) (map shown served) ≡ map (λ (s : Served L). Some s.ending) served
endings_shown [] = refl
endings_shown {L} (s ∷ served) = ap (λ (os : List (Option Ending)). Some s.ending ∷ os) (endings_shown served)

-- what came of serving, where no door failed
pub no_door_failed : {L : Type 0} (served seen : List (Served L)) (ends : List WorkerEnd) (entries : ℕ) (outcome : Result Work Complaint) → list_any is_door_fault ends ≡ false
    → seen ≡ served → outcome ≡ outcome_of_all (map (λ (s : Served L). Some s.ending) seen)
    → outcome ≡ outcome_of_report (record { connections = map shown served; ends = ends; entries = entries })
no_door_failed {L} served seen ends entries outcome none same is =
    is ∙ ap (λ (xs : List (Served L)). outcome_of_all (map (λ (s : Served L). Some s.ending) xs)) same
    ∙ ap outcome_of_all (sym (endings_shown served))
    ∙ sym (ap (λ b. choose b) none)
  where
    choose : Bool → Result Work Complaint
    choose b = if b then Err Fault else outcome_of_all (map (λ (c : Shown). Some c.ending) (map shown served))

-- what serving came to: it stopped, or a network was served and its report printed
pub serving_did : {R Q L : Type 0} (kept : Option R) (view : R → Left Q L) (watch : Watch Q L) (keys : List ℕ → List ℕ) (then_posted now_posted : Option (List Q)) (s : Settings)
    (before after : Facts) (old new : LinkSeen) (status : Status)
    → (kept ≡ None → Stopped ⊥ before after old new status) → IfSome kept (λ r. WasServed watch keys then_posted now_posted s (view r))
    → IfSome kept (λ r. Reported (report_of (view r)) old new status)
    → Stopped ⊥ before after old new status ⊎ NetworkServed (Reports watch keys then_posted now_posted) s old new status
serving_did None view watch keys p q s before after old new status none served reported = inl (none refl)
serving_did (Some r) view watch keys p q s before after old new status none served (inl h) = inl (subst (StoppedAs ⊥ before after) (sym h.0) tt, h.1)
serving_did (Some r) view watch keys p q s before after old new status none served (inr printed) = inr (report_of (view r), (view r, served, refl), printed)

-- the same behind the reading of its settings
pub serve_with_file : {Q L : Type 0} (watch : Watch Q L) (name : List ℕ) (s : Settings) (first then_posted now_posted : Option (List Q)) (before between after : Facts) (old mid new : LinkSeen)
    (status : Status) → WasAsked before between → SaysSettings before name s → mid ≡ old → then_posted ≡ first
    → Stopped ⊥ between after mid new status ⊎ NetworkServed (Reports watch between.keys then_posted now_posted) s mid new status
    → ServeFileRan (Reports watch before.keys first now_posted) name before after old new status
serve_with_file watch name s first p q before between after old mid new status asked says same told (inl (h, e)) =
    inl (stopped_later ⊥ (NoSettings before name) before between after status asked.faults (λ x. absurd x) h, e ∙ same)
serve_with_file {Q} watch name s first p q before between after old mid new status asked says same told (inr h) =
    inr (
      s,
      says,
      subst (λ (keys : List ℕ → List ℕ). NetworkServed (Reports watch keys first q) s old new status) asked.keys
          (subst (λ (o : Option (List Q)). NetworkServed (Reports watch between.keys o q) s old new status) told
          (subst (λ (x : LinkSeen). NetworkServed (Reports watch between.keys p q) s x new status) same h)),
    )
