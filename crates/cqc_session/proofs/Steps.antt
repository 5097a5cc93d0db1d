-- A step of a session: it asks a call, or takes a message.
use Rattle.std.proofs.Common.{◌≡◌, ℕ, ◌<◌, ◌≤◌, List, Option, None, Some, Result, Ok, Err, Bool, refl, sym, ap, ◌∙◌, subst, arith}
use Rattle.cqc_model.specs.declared.Command.{Command}
use Rattle.network_model.specs.declared.Call.{Call}
use Rattle.session_model.specs.declared.Ending.{Ending}
use Rattle.session_model.specs.declared.Ending.TheVariants.{WriteFault}
use Rattle.session_model.specs.Walk.{Connection, between, working, call_of}
use Rattle.cqc_program.specs.Walks.{walk_limit}
use Rattle.cqc_session.specs.declared.stage.Stage.TheVariants.{Waiting}
use Rattle.cqc_session.specs.State.{State, Waits, work_of, work_size, steps_left}
use Rattle.cqc_session.specs.Session.{Spoke, Halted}
use Rattle.cqc_session.specs.Parts.{NextAs, TakenAs, StepDid, AdvanceDid, NextCause, ResultCause}
use Rattle.cqc_session.proofs.Going.{spoke_on, halted_on}

-- a reply that was not written
pub result_broke : {T : Type 0} (result : Result T Ending) (why : Ending) (reads now_reads writes now_writes : ℕ) → result ≡ Err why → why ≡ WriteFault → now_reads ≡ reads
    → NextCause {T = T} (Err why) writes now_writes → ResultCause result reads now_reads writes now_writes
result_broke {T} result why reads now_reads writes now_writes is fault same cause =
    subst (λ (r : Result T Ending). ResultCause r reads now_reads writes now_writes) (sym (is ∙ ap Err fault)) (omega (arith, same), cause.0, cause.1)

-- v is the session as its fields tell it
module _ (v s : State) (same : v ≡ s) (opened : Option ℕ) (list : List Command) (notify : Bool) (work : v.work ≡ work_of opened list notify)
    (left mid held said : Option (List ℕ)) where
  pub step_broke : (t : State) (result : Result (Option Call) Ending) (why : Ending) → result ≡ Err why
      → NextAs v.connection opened list notify (record { left = left; held = held; budget = v.budget }) (record { left = mid; held = said; budget = v.budget }) (Err why)
      → StepDid s t (record { left = left; held = held; budget = s.budget }) (record { left = mid; held = said; budget = s.budget }) result
  step_broke t result why is next =
      subst (λ (x : State). StepDid x t (record { left = left; held = held; budget = x.budget }) (record { left = mid; held = said; budget = x.budget }) result) same
      (subst (λ (r : Result (Option Call) Ending). StepDid v t (record { left = left; held = held; budget = v.budget }) (record { left = mid; held = said; budget = v.budget }) r)
      (sym (is ∙ ap Err next.0)) (rw work next.1))

  pub step_asks : (call : Call) (o : Option (ℕ × Command)) → o ≡ Some (call.app, call.command) → call ≡ call_of v.connection call.app call.command
      → NextAs v.connection opened list notify (record { left = left; held = held; budget = v.budget }) (record { left = mid; held = said; budget = v.budget }) (Ok o)
      → (s ≡ s) × (mid ≡ left) × (said ≡ held) × Waits call (record s { stage = Waiting })
  step_asks call o is call_is next =
      let n = subst (λ (x : Option (ℕ × Command)). NextAs v.connection opened list notify (record { left = left; held = held; budget = v.budget }) (record { left = mid; held = said; budget = v.budget }) (Ok x)) is next in (
        refl,
        n.3,
        n.4,
        subst (λ (x : State). Waits call (record x { stage = Waiting })) same
            (record {
              stage = refl;
              others = n.1;
              notify = notify;
              work = work ∙ ap (λ (x : Option ℕ). work_of x list notify) n.0 ∙ ap (λ (l : List Command). working call.app l notify) n.2;
              call_is = call_is;
              allowed = n.5;
            }),
      )

  module _ (rest wrote : Option (List ℕ)) (now : ℕ) (o : Option (ℕ × Command)) (others : List Command) (also : Bool) (none : o ≡ None)
      (next : NextAs v.connection opened list notify (record { left = left; held = held; budget = v.budget }) (record { left = mid; held = said; budget = v.budget }) (Ok o)) where
    ready : Spoke v.connection v.work left mid held said v.budget v.budget between
    ready =
        rw work
        (subst (λ (x : Option (ℕ × Command)). NextAs v.connection opened list notify (record { left = left; held = held; budget = v.budget }) (record { left = mid; held = said; budget = v.budget }) (Ok x)) none next)

    pub step_halts : (t : State) (result : Result (Option Call) Ending) (why : Ending) → result ≡ Err why
        → TakenAs v.connection v.cap (record { left = mid; held = said; budget = v.budget }) (record { left = rest; held = wrote; budget = now }) others also (Err why)
        → StepDid s t (record { left = left; held = held; budget = s.budget }) (record { left = rest; held = wrote; budget = now }) result
    step_halts t result why is halted =
        subst (λ (x : State). StepDid x t (record { left = left; held = held; budget = x.budget }) (record { left = rest; held = wrote; budget = now }) result) same
        (subst (λ (r : Result (Option Call) Ending). StepDid v t (record { left = left; held = held; budget = v.budget }) (record { left = rest; held = wrote; budget = now }) r)
        (sym is) (halted_on v.connection v.cap _ _ _ _ _ _ _ _ _ _ _ why ready halted))

    pub step_goes : (later : Option ℕ)
        → TakenAs v.connection v.cap (record { left = mid; held = said; budget = v.budget }) (record { left = rest; held = wrote; budget = now }) others also (Ok later)
        → Spoke s.connection s.work left rest held wrote s.budget now (work_of later others also) × (now < s.budget) × (work_size (work_of later others also) < walk_limit)
    step_goes later taken =
        subst (λ (x : State). Spoke x.connection x.work left rest held wrote x.budget now (work_of later others also) × (now < x.budget) × (work_size (work_of later others also) < walk_limit)) same
        (spoke_on v.connection _ _ _ _ _ _ _ _ _ _ _ _ ready taken.0, taken.1, taken.2)

-- Steps, one after another.
module _ (first s t : State) (a b c d e f : Option (List ℕ))
    (so_far : Spoke first.connection first.work a b d e first.budget s.budget s.work) (same : s.connection ≡ first.connection) where
  pub advance_ends : (why : Ending) → s.cap ≡ first.cap
      → StepDid s t (record { left = b; held = e; budget = s.budget }) (record { left = c; held = f; budget = t.budget }) (Err why)
      → AdvanceDid first t (record { left = a; held = d; budget = first.budget }) (record { left = c; held = f; budget = t.budget }) (Err why)
  advance_ends why cap did =
      halted_on first.connection first.cap _ _ _ _ _ _ _ _ _ _ _ why so_far
      (subst (λ n. Halted first.connection n s.work b c e f s.budget t.budget why) cap
      (subst (λ (p : Connection). Halted p s.cap s.work b c e f s.budget t.budget why) same did))

  pub advance_goes : (asked : Option Call) → asked ≡ None → steps_left s ≤ steps_left first
      → StepDid s t (record { left = b; held = e; budget = s.budget }) (record { left = c; held = f; budget = t.budget }) (Ok asked)
      → Spoke first.connection first.work a c d f first.budget t.budget t.work × (steps_left t ≤ steps_left first)
  advance_goes asked none few did =
      let went = subst (λ (x : Option Call). StepDid s t (record { left = b; held = e; budget = s.budget }) (record { left = c; held = f; budget = t.budget }) (Ok x)) none did in (
        spoke_on first.connection _ _ _ _ _ _ _ _ _ _ _ _ so_far (subst (λ (p : Connection). Spoke p s.work b c e f s.budget t.budget t.work) same went.0),
        omega (arith, went.1, went.2, few),
      )
