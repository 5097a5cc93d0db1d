-- How a session goes on.
use Rattle.std.proofs.Common.{◌≡◌, ℕ, List, [], ◌∷◌, ◌++◌, take, drop, Option, None, Some, Result, Ok, Err, Bool, true, false, refl, sym, ap, ◌∙◌, arith, subst, length-drop}
use Rattle.std.specs.Prelude.{IsErrAnd, if◌then◌else◌, not, ◌&&◌}
use Rattle.std.proofs.lemmas.Result.{err_from_is_err_and}
use Rattle.std.proofs.lemmas.List.{take_all, take-append-drop, append_assoc}
use Rattle.cqc_model.specs.declared.Command.{Command}
use Rattle.network_model.specs.declared.Call.{Call}
use Rattle.cqc_model.specs.declared.Reply.TheVariants as reply
use Rattle.session_model.specs.declared.Ending.{Ending}
use Rattle.session_model.specs.declared.Ending.TheVariants.{Clean, Cut, ReadFault, WriteFault, Full, Spent}
use Rattle.cqc_model.specs.Wire.{spell}
use Rattle.session_model.specs.Walk.{Connection, Work, between, working, call_of, spell_core, Leads}
use Rattle.session_model.proofs.Leading.{leads_nowhere, leads_on, leads_done, work_after}
use Rattle.session_model.proofs.Speaking.{asked_step}
use Rattle.network_model.specs.History.{is_error}
use Rattle.network_model.specs.declared.CoreReply.{CoreReply}
use Rattle.network_model.specs.declared.JournalFull.{JournalFull}
use Rattle.qron_link.specs.Outside.{WasWritten}
use Rattle.qron_link.proofs.Known.{read_none, written_none, written_on}
use Rattle.qron_link.specs.Transfers.{Took, Sent}
use Rattle.cqc_session.specs.State.{work_of}
use Rattle.cqc_session.specs.Parts.{Moment, NextAs}
use Rattle.cqc_session.specs.Session.{Spoke, Paused, Broken, Halted, PartSaid, GoesOn, answer_text}
use Rattle.qron_link.proofs.Fills.{took_on}

took_none : (left later : Option (List ℕ)) (n : ℕ) → later ≡ left → Took left later n n []
took_none left later n same = record { read = read_none left later same; paid = omega arith }

-- by nothing
pub stays : (connection : Connection) (w : Work) (left later held wrote : Option (List ℕ)) (n : ℕ) → later ≡ left → wrote ≡ held → Spoke connection w left later held wrote n n w
stays connection w left later held wrote n same kept = record {
  taken = [];
  given = [];
  took = took_none left later n same;
  gave = written_none held wrote kept;
  leads = leads_nowhere connection w;
}

pub not_open : (connection : Connection) (opened : Option ℕ) (list : List Command) (notify : Bool) (left held : Option (List ℕ)) (n : ℕ)
    → opened ≡ None → Spoke connection (work_of opened list notify) left left held held n n between
not_open connection opened list notify left held n is =
    subst (λ (o : Option ℕ). Spoke connection (work_of o list notify) left left held held n n between) (sym is) (stays connection between left left held held n refl refl)

work_is : (opened : Option ℕ) (app : ℕ) (list : List Command) (notify also : Bool) → opened ≡ Some app → list ≡ [] → notify ≡ also
    → working app [] also ≡ work_of opened list notify
work_is opened app list notify also o l n =
    sym (ap (λ (x : Option ℕ). work_of x list notify) o ∙ ap (λ (x : List Command). working app x notify) l ∙ ap (working app []) n)

-- no command is left
module _ (connection : Connection) (opened : Option ℕ) (app : ℕ) (list : List Command) (notify : Bool) (n : ℕ) (is_open : opened ≡ Some app) (none : list ≡ []) where
  pub no_done : (left held : Option (List ℕ)) → notify ≡ false → Spoke connection (work_of opened list notify) left left held held n n between
  no_done left held is =
      subst (λ (w : Work). Spoke connection w left left held held n n between) (work_is opened app list notify false is_open none is)
      (record { taken = []; given = []; took = took_none left left n refl; gave = written_none held held refl; leads = leads_done connection app false })

  pub done_said : (left later held wrote : Option (List ℕ)) (done : ℕ) → notify ≡ true → later ≡ left → Sent true held wrote (spell app reply.Done) done
      → Spoke connection (work_of opened list notify) left later held wrote n n between
  done_said left later held wrote done is same s =
      let all : take done (spell app reply.Done) ≡ spell app reply.Done = take_all done (spell app reply.Done) (omega (arith, s.whole refl)) in
      subst (λ (w : Work). Spoke connection w left later held wrote n n between) (work_is opened app list notify true is_open none is)
      (record {
        taken = [];
        given = spell app reply.Done;
        took = took_none left later n same;
        gave = subst (λ (x : List ℕ). WasWritten held x wrote) all s.wrote;
        leads = leads_done connection app true;
      })

  pub done_broke : (left later held wrote : Option (List ℕ)) (done : ℕ) → notify ≡ true → later ≡ left → Sent false held wrote (spell app reply.Done) done
      → Broken connection (work_of opened list notify) left later held wrote n n
  done_broke left later held wrote done is same s =
      let text = spell app reply.Done in
      subst (λ (w : Work). Broken connection w left later held wrote n n) (work_is opened app list notify true is_open none is)
      (record {
        taken = [];
        whole = text;
        given = take done text;
        took = took_none left later n same;
        gave = s.wrote;
        leads = leads_done connection app true;
        short = (drop done text, omega (arith, length-drop done text, s.part refl), take-append-drop done text);
      })

-- what the exit of a `?` returns
pub exits : {T : Type 0} (result : Result T Ending) (why : Ending) → IsErrAnd result (λ e. e ≡ why) → result ≡ Err why
exits result why h =
    let e = err_from_is_err_and result h in
    e.1 ∙ ap Err e.2

pub next_broke : (connection : Connection) (opened : Option ℕ) (list : List Command) (notify : Bool) (old new : Moment) (result : Result (Option (ℕ × Command)) Ending) (why : Ending)
    → result ≡ Err why → why ≡ WriteFault → Broken connection (work_of opened list notify) old.left new.left old.held new.held old.budget new.budget
    → NextAs connection opened list notify old new result
next_broke connection opened list notify old new result why is fault b =
    subst (λ (r : Result (Option (ℕ × Command)) Ending). NextAs connection opened list notify old new r) (sym is) (fault, b)

-- one after the other
pub spoke_on : (connection : Connection) (u v w : Work) (a b c d e f : Option (List ℕ)) (before mid now : ℕ)
    → Spoke connection u a b d e before mid v → Spoke connection v b c e f mid now w → Spoke connection u a c d f before now w
spoke_on connection u v w a b c d e f before mid now s t = record {
  taken = s.taken ++ t.taken;
  given = s.given ++ t.given;
  took = took_on _ _ _ _ _ _ _ _ s.took t.took;
  gave = written_on _ _ _ _ _ s.gave t.gave;
  leads = leads_on connection u v w _ _ _ _ _ _ _ _ s.leads t.leads;
}

pub broke_on : (connection : Connection) (u v : Work) (a b c d e f : Option (List ℕ)) (before mid now : ℕ)
    → Spoke connection u a b d e before mid v → Broken connection v b c e f mid now → Broken connection u a c d f before now
broke_on connection u v a b c d e f before mid now s t = record {
  taken = s.taken ++ t.taken;
  whole = s.given ++ t.whole;
  given = s.given ++ t.given;
  took = took_on _ _ _ _ _ _ _ _ s.took t.took;
  gave = written_on _ _ _ _ _ s.gave t.gave;
  leads = leads_on connection u v between _ _ _ _ _ _ _ _ s.leads t.leads;
  short = (t.short.0, t.short.1, append_assoc s.given t.given t.short.0 ∙ ap (λ x. s.given ++ x) t.short.2);
}

paused_on : (connection : Connection) (cap : ℕ) (u v : Work) (a b c d e f : Option (List ℕ)) (before mid now : ℕ) (ending : Ending)
    → Spoke connection u a b d e before mid v → Paused connection cap v b c e f mid now ending → Paused connection cap u a c d f before now ending
paused_on connection cap u v a b c d e f before mid now ending s t = record {
  taken = s.taken ++ t.taken;
  part = t.part;
  given = s.given ++ t.given;
  took = subst (λ (x : List ℕ). Took a c before now x) (sym (append_assoc s.taken t.taken t.part)) (took_on _ _ _ _ _ _ _ _ s.took t.took);
  gave = written_on _ _ _ _ _ s.gave t.gave;
  leads = leads_on connection u v between _ _ _ _ _ _ _ _ s.leads t.leads;
  none = t.none;
  why = t.why;
}

pub halted_on : (connection : Connection) (cap : ℕ) (u v : Work) (a b c d e f : Option (List ℕ)) (before mid now : ℕ) (ending : Ending)
    → Spoke connection u a b d e before mid v → Halted connection cap v b c e f mid now ending → Halted connection cap u a c d f before now ending
halted_on connection cap u v a b c d e f before mid now Clean s t = paused_on connection cap u v a b c d e f before mid now Clean s t
halted_on connection cap u v a b c d e f before mid now (Cut have need) s t = paused_on connection cap u v a b c d e f before mid now (Cut have need) s t
halted_on connection cap u v a b c d e f before mid now ReadFault s t = paused_on connection cap u v a b c d e f before mid now ReadFault s t
halted_on connection cap u v a b c d e f before mid now (Spent bytes) s t = paused_on connection cap u v a b c d e f before mid now (Spent bytes) s t
halted_on connection cap u v a b c d e f before mid now WriteFault s t = broke_on connection u v a b c d e f before mid now s t
halted_on connection cap u v a b c d e f before mid now (Full entries) s t = absurd t

-- a session that waits has the message of that call's app open
pub record Open (opened : Option ℕ) (list : List Command) (notify : Bool) (call : Call) (others : List Command) (also : Bool) : Type 0 where
  pub open_is : opened ≡ Some call.app
  pub list_is : list ≡ call.command ∷ others
  pub notify_is : notify ≡ also

pub open_with : (opened : Option ℕ) (list : List Command) (notify : Bool) (call : Call) (others : List Command) (also : Bool)
    → work_of opened list notify ≡ working call.app (call.command ∷ others) also → Open opened list notify call others also
open_with (Some app) list notify call others also e = record { open_is = cc; list_is = cc; notify_is = cc }
open_with None list notify call others also e = absurd (never e)
  where
    never : between ≡ working call.app (call.command ∷ others) also → ⊥
    never e = cc

pub same_app : (opened : Option ℕ) (one two : ℕ) → opened ≡ Some one → opened ≡ Some two → one ≡ two
same_app opened one two e f = cc

-- what is still to be asked after a reply
pub after_reply : (opened : Option ℕ) (list later : List Command) (notify after : Bool) (call : Call) (others : List Command) (also : Bool) (r : CoreReply) (refused : Bool)
    → Open opened list notify call others also → refused ≡ is_error r → later ≡ (if not refused then drop 1 list else []) → after ≡ (not refused && notify)
    → work_of opened later after ≡ work_after call.app others also r
after_reply opened list later notify after call others also r refused o is l n =
    ap (λ (x : Option ℕ). work_of x later after) o.open_is
    ∙ ap (λ (x : List Command). working call.app x after)
    (l ∙ ap (λ (b : Bool). if not b then drop 1 list else []) is ∙ ap (λ (x : List Command). if not (is_error r) then drop 1 x else []) o.list_is)
    ∙ ap (λ (b : Bool). working call.app (if not (is_error r) then drop 1 (call.command ∷ others) else []) b)
    (n ∙ ap (λ (b : Bool). not b && notify) is ∙ ap (λ (b : Bool). not (is_error r) && b) o.notify_is)
    ∙ by_refusal (is_error r)
  where
    by_refusal : (e : Bool) → working call.app (if not e then drop 1 (call.command ∷ others) else []) (not e && also) ≡ (if e then working call.app [] false else working call.app others also)
    by_refusal true = refl
    by_refusal false = refl

-- a text that was sent whole
whole_said : (all : Bool) (piece text : List ℕ) (held wrote : Option (List ℕ)) (done : ℕ) → all ≡ true → piece ≡ text → Sent all held wrote piece done → WasWritten held text wrote
whole_said all piece text held wrote done is same s =
    subst (λ (x : List ℕ). WasWritten held x wrote) (take_all done piece (omega (arith, s.whole is)) ∙ same) s.wrote

-- a text that was sent in part
part_said : (text : List ℕ) (held wrote : Option (List ℕ)) (done : ℕ) → Sent false held wrote text done → PartSaid text held wrote
part_said text held wrote done s = record {
  given = take done text;
  gave = s.wrote;
  short = (drop done text, omega (arith, length-drop done text, s.part refl), take-append-drop done text);
}

-- The answer to a call: its bytes are a piece, and app is the one that is open.
module _ (call : Call) (app : ℕ) (done : Result CoreReply JournalFull) (piece : List ℕ) (held wrote : Option (List ℕ)) (all : Bool) (sent : ℕ)
    (app_is : app ≡ call.app) (text : piece ≡ answer_text app done) (s : Sent all held wrote piece sent) where
  text_is : piece ≡ answer_text call.app done
  text_is = text ∙ ap (λ n. answer_text n done) app_is

  pub answer_broke : all ≡ false → PartSaid (answer_text call.app done) held wrote
  answer_broke is =
      subst (λ (x : List ℕ). PartSaid x held wrote) text_is
      (part_said piece held wrote sent (subst (λ (b : Bool). Sent b held wrote piece sent) is s))

  pub answer_goes_on : (connection : Connection) (old new : Work) (r : CoreReply) (others : List Command) (also : Bool) → all ≡ true → done ≡ Ok r
      → old ≡ working call.app (call.command ∷ others) also → call ≡ call_of connection call.app call.command → new ≡ work_after call.app others also r
      → GoesOn connection old call held wrote done new
  answer_goes_on connection old new r others also is done_is old_is call_is new_is =
      subst (λ (d : Result CoreReply JournalFull). GoesOn connection old call held wrote d new) (sym done_is)
      (record {
        gave = whole_said all piece (spell_core call.app r) held wrote sent is (text_is ∙ ap (answer_text call.app) done_is) s;
        leads = subst (λ (w : Work). Leads connection old [] (call ∷ []) (r ∷ []) (spell_core call.app r) w) (sym new_is)
            (asked_step connection old call others also r old_is call_is);
      })
