-- One message: what was read of it, and what was said.
use Rattle.std.proofs.Common.{◌≡◌, ℕ, ◌<◌, List, [], ◌++◌, length, take, drop, Option, Some, None, Bool, true, false, refl, sym, ap, ◌∙◌, arith, subst, length-append, length-drop}
use Rattle.std.specs.Prelude.{nat_lt, Result, Ok, Err}
use Rattle.std.proofs.lemmas.Bool.Decides.{nat_tests}
use Rattle.std.proofs.lemmas.List.{take_all, take-append-drop}
use Rattle.cqc_model.specs.declared.Header.{Header}
use Rattle.cqc_model.specs.declared.Command.{Command}
use Rattle.cqc_model.specs.declared.Reply.{Reply}
use Rattle.session_model.specs.declared.Ending.{Ending}
use Rattle.session_model.specs.declared.Ending.TheVariants.{Clean, Cut, ReadFault, WriteFault, Full, Spent}
use Rattle.cqc_model.specs.Wire.{header_of, spell}
use Rattle.cqc_model.specs.Plan.{body_size, begins_whole}
use Rattle.session_model.specs.Walk.{Connection, Work, between}
use Rattle.session_model.specs.Speaks.{CutAt}
use Rattle.cqc_model.proofs.Cuts.{IsMessage, header_front, body_part}
use Rattle.session_model.proofs.Leading.{leads_nowhere, leads_plan, leads_start}
use Rattle.qron_link.specs.Outside.{WasWritten}
use Rattle.qron_link.proofs.Known.{written_none}
use Rattle.qron_link.specs.Transfers.{Took, Sent}
use Rattle.cqc_session.specs.Session.{Paused, Broken, Halted, PartAs}
use Rattle.cqc_session.specs.Parts.{Moment, Reads, HeadParted, BodyAs, BodyParted, BodyTaken, TakenAs}
use Rattle.qron_link.proofs.Fills.{took_on}

halted_by : (connection : Connection) (cap : ℕ) (old : Work) (left rest held wrote : Option (List ℕ)) (before now : ℕ) (ending : Ending) (part : List ℕ)
    → PartAs cap rest now part ending → Paused connection cap old left rest held wrote before now ending → Halted connection cap old left rest held wrote before now ending
halted_by connection cap old left rest held wrote before now Clean part why p = p
halted_by connection cap old left rest held wrote before now (Cut have need) part why p = p
halted_by connection cap old left rest held wrote before now ReadFault part why p = p
halted_by connection cap old left rest held wrote before now (Spent bytes) part why p = p
halted_by connection cap old left rest held wrote before now WriteFault part why p = absurd why
halted_by connection cap old left rest held wrote before now (Full entries) part why p = absurd why

-- a part of a message
paused_at : (connection : Connection) (cap : ℕ) (left rest held wrote : Option (List ℕ)) (before now : ℕ) (ending : Ending) (part : List ℕ)
    → Took left rest before now part → wrote ≡ held → begins_whole part ≡ false → PartAs cap rest now part ending
    → Halted connection cap between left rest held wrote before now ending
paused_at connection cap left rest held wrote before now ending part took same none why =
    halted_by connection cap between left rest held wrote before now ending part why
    (record { taken = []; part = part; given = []; took = took; gave = written_none held wrote same; leads = leads_nowhere connection between; none = none; why = why })

pub head_halts : (connection : Connection) (cap : ℕ) (old new : Moment) (list : List Command) (notify : Bool) (result : Result (Option ℕ) Ending) (why : Ending)
    → result ≡ Err why → HeadParted cap old new why → new.held ≡ old.held → TakenAs connection cap old new list notify result
head_halts connection cap old new list notify result why is h same =
    subst (λ (r : Result (Option ℕ) Ending). TakenAs connection cap old new list notify r) (sym is)
    (paused_at connection cap old.left new.left old.held new.held old.budget new.budget why h.part h.took same h.none h.because)

part_none : (head part : List ℕ) → length head ≡ 8 → length part < body_size head → begins_whole (head ++ part) ≡ false
part_none head part eight less =
    let front : body_size (head ++ part) ≡ body_size head = ap (λ (h : Header). h.length) (header_front head part eight) in
    body_part (head ++ part) (omega (arith, length-append head part))

part_cut : (head part : List ℕ) (have need : ℕ) → length head ≡ 8 → have ≡ length part → need ≡ body_size head → CutAt (head ++ part) have need
part_cut head part have need eight h n =
    let front : body_size (head ++ part) ≡ body_size head = ap (λ (h : Header). h.length) (header_front head part eight) in
    let long : nat_lt (length (head ++ part)) 8 ≡ false = grind (arith, nat_tests, length-append) in
    rw long (omega (arith, length-append head part), n ∙ sym front)

body_why : (cap : ℕ) (new : Moment) (head part : List ℕ) (ending : Ending) → length head ≡ 8
    → BodyAs cap new (body_size head) part ending → PartAs cap new.left new.budget (head ++ part) ending
body_why cap new head part (Cut have need) eight why = (omega (arith, length-append head part), why.2, part_cut head part have need eight why.0 why.1)
body_why cap new head part ReadFault eight why = tt
body_why cap new head part (Spent bytes) eight why = why
body_why cap new head part Clean eight why = absurd why
body_why cap new head part WriteFault eight why = absurd why
body_why cap new head part (Full entries) eight why = absurd why

pub body_halts : (connection : Connection) (cap also : ℕ) (old mid new : Moment) (head : List ℕ) (h : Header) (list : List Command) (notify : Bool)
    (result : Result (Option ℕ) Ending) (why : Ending)
    → result ≡ Err why → also ≡ cap → Reads old mid head → length head ≡ 8 → h ≡ header_of head → BodyParted also mid new h.length why → new.held ≡ old.held
    → TakenAs connection cap old new list notify result
body_halts connection cap also old mid new head h list notify result why is cap_is took eight h_is b same =
    let size : h.length ≡ body_size head = ap (λ (x : Header). x.length) h_is in
    subst (λ (r : Result (Option ℕ) Ending). TakenAs connection cap old new list notify r) (sym is)
    (paused_at connection cap old.left new.left old.held new.held old.budget new.budget why (head ++ b.part) (took_on _ _ _ _ _ _ _ _ took b.took) same
    (part_none head b.part eight (omega (arith, b.less)))
    (body_why cap new head b.part why eight
    (subst (λ n. BodyAs cap new n b.part why) size (subst (λ n. BodyAs n new h.length b.part why) cap_is b.because))))

-- A whole message.
pub record MessageRead (old new : Moment) (head body : List ℕ) : Type 0 where
  pub took : Reads old new (head ++ body)
  pub message : IsMessage head body

message_read : (old mid new : Moment) (head : List ℕ) (list : List Command) (notify : Bool) (answer : Option Reply)
    → Reads old mid head → length head ≡ 8 → (b : BodyTaken (header_of head) mid new list notify answer) → MessageRead old new head b.body
message_read old mid new head list notify answer took eight b = record {
  took = took_on _ _ _ _ _ _ _ _ took b.took;
  message = record { eight = eight; size = b.all };
}

fewer : (old new : Moment) (head body : List ℕ) → MessageRead old new head body → new.budget < old.budget
fewer old new head body read = omega (arith, read.took.paid, length-append head body, read.message.eight)

-- what is left, what may still be read, and what is held, behind a further write
pub record Behind (new last : Moment) : Type 0 where
  pub left : last.left ≡ new.left
  pub budget : last.budget ≡ new.budget

took_behind : (old new last : Moment) (bytes : List ℕ) → Reads old new bytes → Behind new last → Reads old last bytes
took_behind old new last bytes t h =
    subst (λ (n : ℕ). Took old.left last.left old.budget n bytes) (sym h.budget)
    (subst (λ (x : Option (List ℕ)). Took old.left x old.budget new.budget bytes) (sym h.left) t)

-- One message: its header was read, then its body, and its one answer was written where it has one.
module _ (connection : Connection) (cap : ℕ) (old mid new : Moment) (head : List ℕ) (list : List Command) (notify : Bool)
    (took : Reads old mid head) (eight : length head ≡ 8) (same : new.held ≡ old.held) where
  opens : BodyTaken (header_of head) mid new list notify None → TakenAs connection cap old new list notify (Ok (Some (header_of head).app))
  opens b =
      let read = message_read old mid new head list notify None took eight b in (
        record {
          taken = head ++ b.body;
          given = [];
          took = read.took;
          gave = written_none old.held new.held same;
          leads = leads_start connection head b.body list notify read.message b.plan.0;
        },
        fewer old new head b.body read,
        b.plan.1,
      )

  says : (last : Moment) (r : Reply) (done : ℕ) → BodyTaken (header_of head) mid new list notify (Some r) → Behind new last
      → Sent true new.held last.held (spell (header_of head).app r) done → TakenAs connection cap old last list notify (Ok None)
  says last r done b behind s =
      let read = message_read old mid new head list notify (Some r) took eight b in
      let all : take done (spell (header_of head).app r) ≡ spell (header_of head).app r =
      take_all done (spell (header_of head).app r) (omega (arith, s.whole refl)) in (
        record {
          taken = head ++ b.body;
          given = spell (header_of head).app r;
          took = took_behind old new last (head ++ b.body) read.took behind;
          gave = subst (λ (x : Option (List ℕ)). WasWritten x (spell (header_of head).app r) last.held) same
              (subst (λ (x : List ℕ). WasWritten new.held x last.held) all s.wrote);
          leads = leads_plan connection head b.body r read.message b.plan;
        },
        omega (arith, fewer old new head b.body read, behind.budget),
        omega arith,
      )

  breaks : (last : Moment) (r : Reply) (done : ℕ) → BodyTaken (header_of head) mid new list notify (Some r) → Behind new last
      → Sent false new.held last.held (spell (header_of head).app r) done → Broken connection between old.left last.left old.held last.held old.budget last.budget
  breaks last r done b behind s =
      let read = message_read old mid new head list notify (Some r) took eight b in
      record {
        taken = head ++ b.body;
        whole = spell (header_of head).app r;
        given = take done (spell (header_of head).app r);
        took = took_behind old new last (head ++ b.body) read.took behind;
        gave = subst (λ (x : Option (List ℕ)). WasWritten x (take done (spell (header_of head).app r)) last.held) same s.wrote;
        leads = leads_plan connection head b.body r read.message b.plan;
        short = (
          drop done (spell (header_of head).app r),
          omega (arith, length-drop done (spell (header_of head).app r), s.part refl),
          take-append-drop done (spell (header_of head).app r),
        );
      }

  pub opened : (h : Header) (answer : Option Reply) → h ≡ header_of head → answer ≡ None → BodyTaken h mid new list notify answer
      → TakenAs connection cap old new list notify (Ok (Some h.app))
  opened h answer h_is is b =
      subst (λ (x : Header). BodyTaken x mid new list notify None → TakenAs connection cap old new list notify (Ok (Some x.app))) (sym h_is) opens
      (subst (λ (o : Option Reply). BodyTaken h mid new list notify o) is b)

  pub answered : (last : Moment) (h : Header) (answer : Option Reply) (r : Reply) (done : ℕ) → h ≡ header_of head → answer ≡ Some r → BodyTaken h mid new list notify answer
      → Behind new last → Sent true new.held last.held (spell h.app r) done → TakenAs connection cap old last list notify (Ok None)
  answered last h answer r done h_is is b behind =
      subst (λ (x : Header). BodyTaken x mid new list notify (Some r) → Sent true new.held last.held (spell x.app r) done → TakenAs connection cap old last list notify (Ok None))
      (sym h_is) (λ taken. says last r done taken behind) (subst (λ (o : Option Reply). BodyTaken h mid new list notify o) is b)

  pub broke : (last : Moment) (h : Header) (answer : Option Reply) (r : Reply) (done : ℕ) (result : Result (Option ℕ) Ending) (why : Ending) → result ≡ Err why → why ≡ WriteFault
      → h ≡ header_of head → answer ≡ Some r → BodyTaken h mid new list notify answer → Behind new last → Sent false new.held last.held (spell h.app r) done
      → TakenAs connection cap old last list notify result
  broke last h answer r done result why is fault h_is some b behind s =
      subst (λ (x : Result (Option ℕ) Ending). TakenAs connection cap old last list notify x) (sym (is ∙ ap Err fault))
      (subst (λ (x : Header). BodyTaken x mid new list notify (Some r) → Sent false new.held last.held (spell x.app r) done
      → Broken connection between old.left last.left old.held last.held old.budget last.budget)
      (sym h_is) (λ taken. breaks last r done taken behind) (subst (λ (o : Option Reply). BodyTaken h mid new list notify o) some b) s)
