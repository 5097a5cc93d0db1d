-- Actors over links in memory that list no faults: each ended as the definition of turns says of its plan.
use Rattle.std.proofs.Common.{◌≡◌, ◌⊎◌, ℕ, zero, suc, ◌+◌, ◌<◌, ◌≤◌, List, [], ◌∷◌, ◌++◌, length, map, Option, None, Some, unwrap_or, refl, sym, ap, subst, ◌∙◌, arith, length-append}
use Rattle.std.specs.Prelude.{All, IfSome, option_map}
use Rattle.std.proofs.lemmas.List.Elements.{All-head, All-tail}
use Rattle.network_model.specs.Network.{Shape}
use Rattle.network_model.specs.declared.Entry.{Entry}
use Rattle.session_model.specs.declared.Ending.{Ending}
use Rattle.session_model.specs.declared.Ending.TheVariants.{Clean, Cut, ReadFault, WriteFault, Full, Spent}
use Rattle.cqc_model.specs.Plan.{messages}
use Rattle.session_model.specs.Walk.{walk}
use Rattle.session_model.specs.Speaks.{Ended, EndsAs, replies_of}
use Rattle.session_model.specs.Turns.{Actor, Finish, AreTurns, takers_of, actor_end}
use Rattle.qron_link.specs.MemLinks.{Memory, IsSameLink}
use Rattle.qron_link.specs.Outside.{Rose, WasRead, WasWritten, RoomTaken}
use Rattle.cqc_session.specs.Session.{EndCause}
use Rattle.cqc_server.specs.Replay.{Act, Seen, CameToEnd, Replayed, AreLed, place_of, words_of, entries_of, actor_of, setting_of, input_by, room_by}
use Rattle.cqc_server.specs.InMemory.{IsUnused, planned_actor, shown_end}
use Rattle.cqc_server.proofs.Finishes.{finishes}

some_same : {A : Type 0} (x y : A) → Some x ≡ Some y → x ≡ y
some_same x y e = cc

-- what is seen of an actor is seen of a link in memory
pub record SeesLink (s : Seen) (link : Memory) : Type 0 where
  pub left : s.left ≡ Some link.left
  pub held : s.held ≡ Some link.held
  pub room : s.room ≡ Some link.room
  pub read_faults : s.read_faults ≡ link.read_faults
  pub write_faults : s.write_faults ≡ link.write_faults

module _ (word : List ℕ → ℕ → ℕ → ℕ → ℕ) (capacity : ℕ) (h : List Entry) (old new : Memory) (a : Act) (over : CameToEnd word capacity h a)
    (unused : IsUnused a.before.session.cap old) (led : IsSameLink old new) (was : SeesLink a.before old) (is : SeesLink a.after new) where
  -- ---- what was read and written, by the two links
  input_is : old.left ≡ a.read ++ new.left
  input_is =
      some_same _ _ (sym was.left ∙ over.read ∙ ap (λ (o : Option (List ℕ)). option_map (λ xs. a.read ++ xs) o) is.left)

  written_is : new.held ≡ a.written
  written_is =
      some_same _ _ (sym is.held ∙ over.written ∙ ap (λ (o : Option (List ℕ)). option_map (λ xs. xs ++ a.written) o) was.held ∙ ap (λ (xs : List ℕ). Some (xs ++ a.written)) unused.held)

  room_is : new.room + length a.written ≡ old.room
  room_is =
      subst (λ (o : Option ℕ). RoomTaken (Some old.room) (length a.written) o) is.room
      (subst (λ (o : Option ℕ). RoomTaken o (length a.written) a.after.room) was.room over.room)

  -- ---- which endings come
  no_read_fault : over.ending ≡ ReadFault → ⊥
  no_read_fault e =
      let cause = subst (λ (x : Ending). EndCause x a.before.read_faults a.after.read_faults a.before.write_faults a.after.write_faults) e over.cause in
      never a.before.read_faults a.after.read_faults (is.read_faults ∙ led.reads_well unused.bad_reads ∙ unused.read_faults) (was.read_faults ∙ unused.read_faults) cause.2
    where
      never : (b n : ℕ) → n ≡ 0 → b ≡ 0 → Rose b n → ⊥
      never b n p q rose = omega (arith, p, q, rose)

  no_cap : (bytes : ℕ) → over.ending ≡ Spent bytes → ⊥
  no_cap bytes e =
      let ends =
      subst (λ (x : Ending). EndsAs (setting_of capacity (length h) a) a.read (entries_of a h) (walk (place_of a) (messages a.read) (replies_of (entries_of a h))) a.written x) e
      over.speaks.ends in
      omega (arith, ends.1, ends.2, unused.few, ap length input_is, length-append a.read new.left)

  no_room : over.ending ≡ WriteFault → new.room ≡ 0
  no_room e =
      let cause = subst (λ (x : Ending). EndCause x a.before.read_faults a.after.read_faults a.before.write_faults a.after.write_faults) e over.cause in
      by_room new.room refl (λ some. is.write_faults ∙ led.writes_well unused.bad_writes some ∙ unused.write_faults) (was.write_faults ∙ unused.write_faults) cause.2
    where
      by_room : (r : ℕ) → new.room ≡ r → (0 < new.room → a.after.write_faults ≡ 0) → a.before.write_faults ≡ 0 → Rose a.before.write_faults a.after.write_faults → new.room ≡ 0
      by_room zero e none b rose = e
      by_room (suc r) e none b rose = absurd (omega (arith, none (omega (arith, e)), b, rose))

  -- ---- the actor of the definition of turns
  abbrev plan : Actor
  plan = record { connection = place_of a; words = words_of word a; input = old.left; room = Some old.room }

  pub planned : planned_actor word a.before ≡ plan
  planned =
      ap (λ (o : Option (List ℕ)). record { connection = place_of a; words = words_of word a; input = unwrap_or o []; room = a.before.room }) was.left
      ∙ ap (λ (o : Option ℕ). record { connection = place_of a; words = words_of word a; input = old.left; room = o }) was.room

  -- the input and the room of an ending that comes
  all_input : (ending : Ending) → (ending ≡ ReadFault → ⊥) → ((bytes : ℕ) → ending ≡ Spent bytes → ⊥) → input_by (Some ending) (Some old.left) a.read ≡ old.left
  all_input Clean reads spent = refl
  all_input (Cut have need) reads spent = refl
  all_input ReadFault reads spent = absurd (reads refl)
  all_input WriteFault reads spent = refl
  all_input (Full entries) reads spent = refl
  all_input (Spent bytes) reads spent = absurd (spent bytes refl)

  all_room : (ending : Ending) → (ending ≡ WriteFault → new.room ≡ 0) → room_by (Some ending) (Some old.room) (Some new.room) a.written ≡ Some old.room
  all_room Clean none = refl
  all_room (Cut have need) none = refl
  all_room ReadFault none = refl
  all_room WriteFault none = ap (λ (n : ℕ). room_by (Some WriteFault) (Some old.room) (Some n) a.written) (none refl)
  all_room (Full entries) none = refl
  all_room (Spent bytes) none = refl

  actor_is : actor_of word a ≡ plan
  actor_is =
      let input : input_by a.after.ending a.before.left a.read ≡ old.left =
      ap (λ (o : Option Ending). input_by o a.before.left a.read) over.ended
      ∙ ap (λ (o : Option (List ℕ)). input_by (Some over.ending) o a.read) was.left
      ∙ all_input over.ending no_read_fault no_cap in
      let room : room_by a.after.ending a.before.room a.after.room a.written ≡ Some old.room =
      ap (λ (o : Option Ending). room_by o a.before.room a.after.room a.written) over.ended
      ∙ ap (λ (o : Option ℕ). room_by (Some over.ending) o a.after.room a.written) was.room
      ∙ ap (λ (o : Option ℕ). room_by (Some over.ending) (Some old.room) o a.written) is.room
      ∙ all_room over.ending no_room in
      ap (λ (x : List ℕ). record { connection = place_of a; words = words_of word a; input = x; room = room_by a.after.ending a.before.room a.after.room a.written }) input
      ∙ ap (λ (o : Option ℕ). record { connection = place_of a; words = words_of word a; input = old.left; room = o }) room

  pub same_actor : actor_of word a ≡ planned_actor word a.before
  same_actor = actor_is ∙ sym planned

  -- ---- its end
  nothing_left : Ended a.after.left → new.left ≡ []
  nothing_left none = subst (λ (o : Option (List ℕ)). IfSome o (λ b. b ≡ [])) is.left none

  pub same_end : shown_end a.after ≡ Some (actor_end capacity h (planned_actor word a.before))
  same_end =
      let end : actor_end capacity h plan ≡ record { ending = over.ending; written = a.written } =
      finishes (setting_of capacity (length h) a) old.left a.read new.left a.written input_is (entries_of a h) h new.room old.room refl room_is over.ending over.speaks.ends nothing_left no_read_fault no_cap no_room in
      ap (λ (o : Option Ending). option_map (λ (e : Ending). record { ending = e; written = unwrap_or a.after.held [] }) o) over.ended
      ∙ ap (λ (o : Option (List ℕ)). Some (record { ending = over.ending; written = unwrap_or o [] })) is.held
      ∙ ap (λ (x : List ℕ). Some (record { ending = over.ending; written = x })) written_is
      ∙ ap Some (sym end ∙ ap (actor_end capacity h) (sym planned))

-- ---- all actors
module _ {A : Type 0} (seen : A → Seen) (link : A → Memory) (sees : (x : A) → SeesLink (seen x) (link x)) (word : List ℕ → ℕ → ℕ → ℕ → ℕ) (capacity : ℕ) (h : List Entry) where
  abbrev unused_at : A → Type 0
  unused_at x = IsUnused (seen x).session.cap (link x)

  -- the actors of the definition, and the ends
  abbrev Same : List A → List A → List Act → Type 0
  Same xs ys acts = (map (actor_of word) acts ≡ map (planned_actor word) (map seen xs))
      × (map shown_end (map seen ys) ≡ map (λ (m : Actor). Some (actor_end capacity h m)) (map (planned_actor word) (map seen xs)))

  front_is : {B : Type 0} (x y : B) (xs ys : List B) → x ∷ xs ≡ y ∷ ys → x ≡ y
  front_is x y xs ys e = cc

  rest_is : {B : Type 0} (x y : B) (xs ys : List B) → x ∷ xs ≡ y ∷ ys → xs ≡ ys
  rest_is x y xs ys e = cc

  never : {B : Type 0} (x : B) (xs : List B) → x ∷ xs ≡ [] → ⊥
  never x xs e = cc

  joined : {B : Type 0} (x y : B) (xs ys : List B) → x ≡ y → xs ≡ ys → x ∷ xs ≡ y ∷ ys
  joined x y xs ys e f = ap (λ z. z ∷ xs) e ∙ ap (λ zs. y ∷ zs) f

  one_same : (x y : A) (a : Act) → seen x ≡ a.before → seen y ≡ a.after → unused_at x → IsSameLink (link x) (link y) → CameToEnd word capacity h a
      → (actor_of word a ≡ planned_actor word (seen x)) × (shown_end (seen y) ≡ Some (actor_end capacity h (planned_actor word (seen x))))
  one_same x y a before after unused led over =
      let u = subst (λ (s : Seen). IsUnused s.session.cap (link x)) before unused in
      let was = subst (λ (s : Seen). SeesLink s (link x)) before (sees x) in
      let is = subst (λ (s : Seen). SeesLink s (link y)) after (sees y) in (
        same_actor word capacity h (link x) (link y) a over u led was is ∙ ap (planned_actor word) (sym before),
        ap shown_end after ∙ same_end word capacity h (link x) (link y) a over u led was is ∙ ap (λ (s : Seen). Some (actor_end capacity h (planned_actor word s))) (sym before),
      )

  pub all_same : (xs ys : List A) (acts : List Act) → map seen xs ≡ map (λ (a : Act). a.before) acts → map seen ys ≡ map (λ (a : Act). a.after) acts
      → All unused_at xs → AreLed IsSameLink (map link xs) (map link ys) → All (CameToEnd word capacity h) acts → Same xs ys acts
  all_same [] [] [] before after unused led over = (refl, refl)
  all_same [] [] (a ∷ acts) before after unused led over = absurd (never _ _ (sym before))
  all_same [] (y ∷ ys) acts before after unused led over = absurd led
  all_same (x ∷ xs) [] acts before after unused led over = absurd led
  all_same (x ∷ xs) (y ∷ ys) [] before after unused led over = absurd (never _ _ before)
  all_same (x ∷ xs) (y ∷ ys) (a ∷ acts) before after unused led over =
      let one = one_same x y a (front_is _ _ _ _ before) (front_is _ _ _ _ after) (All-head unused_at x xs unused) led.0 (All-head (CameToEnd word capacity h) a acts over) in
      let others = all_same xs ys acts (rest_is _ _ _ _ before) (rest_is _ _ _ _ after) (All-tail unused_at x xs unused) led.1 (All-tail (CameToEnd word capacity h) a acts over) in
      (joined _ _ _ _ one.0 others.0, joined _ _ _ _ one.1 others.1)
