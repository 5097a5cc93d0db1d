-- Command lists, command by command: what a list's commands are in terms of the command in front and those behind it.
-- Main results: `count_goes_on`, `count_ends` for counting, `first_command` for a walk.
use Rattle.std.proofs.Common.{◌≡◌, ℕ, zero, suc, ◌+◌, ◌<◌, ◌≤◌, List, [], ◌∷◌, length, drop, slice_index, Bool, true, false, ◌||◌, Option, None, Some, Result, Ok, Err, IsOk, IsOkAnd, refl, sym, ap, ◌∙◌, if◌then◌else◌, nat_lt, arith, length-drop, ltb-false}
use Rattle.std.proofs.lemmas.List.{drop-drop}
use Rattle.std.proofs.Math.Dec.{eqb-suc-zero}
use Rattle.cqc_model.specs.declared.Command.{Command}
use Rattle.cqc_model.specs.declared.BodyFault.{BodyFault}
use Rattle.cqc_model.specs.declared.BodyFault.TheVariants as body_fault
use Rattle.cqc_model.specs.Plan.{commands, commands_most, command_fault, command_of, command_size, with_command, is_unknown, has_option}
use Rattle.cqc_wire.specs.Body.{command_count}

-- the bytes of the command in front
abbrev pub size_in_front : List ℕ → ℕ
size_in_front b = command_size (slice_index b 2)

-- the bytes behind it
abbrev pub behind : List ℕ → List ℕ
behind b = drop (size_in_front b) b

-- what is behind a command is shorter
behind_is_short : (n : ℕ) (x : ℕ) (t : List ℕ) → length (x ∷ t) ≤ suc n → length (behind (x ∷ t)) ≤ n
behind_is_short n x t h = omega (arith, length-drop (size_in_front (x ∷ t)) (x ∷ t))

-- one command and those behind it
pub commands_step : (n place x : ℕ) (t : List ℕ)
    → commands_most (suc n) place (x ∷ t)
    ≡ with_command (command_fault place (x ∷ t)) (command_of (x ∷ t)) (commands_most n (place + size_in_front (x ∷ t)) (behind (x ∷ t)))
commands_step n place x t = rw (eqb-suc-zero (length t)) refl

-- room for as many commands as bytes is enough
enough : (n m place : ℕ) (b : List ℕ) → length b ≤ n → length b ≤ m → commands_most n place b ≡ commands_most m place b
enough zero zero place b h k = refl
enough zero (suc m) place [] h k = refl
enough zero (suc m) place (x ∷ t) h k = absurd (omega arith)
enough (suc n) zero place [] h k = refl
enough (suc n) zero place (x ∷ t) h k = absurd (omega arith)
enough (suc n) (suc m) place [] h k = refl
enough (suc n) (suc m) place (x ∷ t) h k =
    commands_step n place x t
    ∙ ap (with_command (command_fault place (x ∷ t)) (command_of (x ∷ t)))
    (enough n m (place + size_in_front (x ∷ t)) (behind (x ∷ t)) (behind_is_short n x t h) (behind_is_short m x t k))
    ∙ sym (commands_step m place x t)

-- the commands of a list that begins at a place
abbrev pub commands_from : ℕ → List ℕ → Result (List Command) BodyFault
commands_from place b = commands_most (length b) place b

-- a list that isn't empty is the command in front and those behind it
pub front_and_behind : (place : ℕ) (b : List ℕ) → 0 < length b
    → commands_from place b ≡ with_command (command_fault place b) (command_of b) (commands_from (place + size_in_front b) (behind b))
front_and_behind place [] h = absurd (omega arith)
front_and_behind place (x ∷ t) h =
    commands_step (length t) place x t
    ∙ ap (with_command (command_fault place (x ∷ t)) (command_of (x ∷ t)))
    (enough (length t) (length (behind (x ∷ t))) (place + size_in_front (x ∷ t)) (behind (x ∷ t)) (behind_is_short (length t) x t (omega arith)) (omega arith))

-- so many commands more than were told, or the first fault
abbrev pub count_after : ℕ → Result (List Command) BodyFault → Result ℕ BodyFault
count_after before (Ok cs) = Ok (before + length cs)
count_after before (Err f) = Err f

-- none more
pub count_after_none : (r : Result (List Command) BodyFault) → command_count r ≡ count_after 0 r
count_after_none (Ok cs) = ap Ok (omega arith)
count_after_none (Err f) = refl

count_with_command : (before : ℕ) (c : Command) (r : Result (List Command) BodyFault)
    → count_after before (with_command None c r) ≡ count_after (before + 1) r
count_with_command before c (Ok cs) = ap Ok (omega arith)
count_with_command before c (Err f) = refl

-- a command without a fault is counted
pub count_goes_on : (before place : ℕ) (b : List ℕ) → 0 < length b → command_fault place b ≡ None
    → count_after before (commands_from place b) ≡ count_after (before + 1) (commands_from (place + size_in_front b) (behind b))
count_goes_on before place b h sound =
    rw (front_and_behind place b h, sound) (count_with_command before (command_of b) _)

-- a fault ends the count
pub count_ends : (before place : ℕ) (b : List ℕ) (f : BodyFault) → 0 < length b → command_fault place b ≡ Some f
    → count_after before (commands_from place b) ≡ Err f
count_ends before place b f h fault = rw (front_and_behind place b h, fault) refl

-- the first fault of a command by what four tests say
abbrev pub first_fault : ℕ → Bool → Bool → Bool → Bool → Option BodyFault
first_fault place short unknown optional cut =
    if short then Some (body_fault.Short place)
    else (if unknown then Some (body_fault.Unsupported place)
    else (if optional then Some (body_fault.Unsupported place)
    else (if cut then Some (body_fault.Short place)
    else None)))

-- where no fault is told at one place, none is told at another
sound_anywhere : (p q : ℕ) (a b c d : Bool) → first_fault p a b c d ≡ None → first_fault q a b c d ≡ None
sound_anywhere p q true b c d e = absurd (cc)
sound_anywhere p q false true c d e = absurd (cc)
sound_anywhere p q false false true d e = absurd (cc)
sound_anywhere p q false false false true e = absurd (cc)
sound_anywhere p q false false false false e = refl

-- whether an option that isn't built is set
abbrev pub has_strange_option : List ℕ → Bool
has_strange_option b = has_option 1 (slice_index b 3) || has_option 3 (slice_index b 3)

-- the parts of a list that is commands
with_command_parts : (f g : Option BodyFault) (c : Command) (r s : Result (List Command) BodyFault) (cs : List Command)
    → (f ≡ None → g ≡ None) → ((others : List Command) → r ≡ Ok others → s ≡ Ok others)
    → with_command f c r ≡ Ok cs → with_command g c s ≡ Ok cs
with_command_parts (Some f) g c r s cs h k e = absurd (cc)
with_command_parts None g c (Err f) s cs h k e = absurd (cc)
with_command_parts None g c (Ok others) s cs h k e = rw (h refl, k others refl) e

-- the commands of a list without faults are the same wherever it begins
same_commands : (n p q : ℕ) (b : List ℕ) (cs : List Command) → commands_most n p b ≡ Ok cs → commands_most n q b ≡ Ok cs
same_commands zero p q b cs e = e
same_commands (suc n) p q [] cs e = e
same_commands (suc n) p q (x ∷ t) cs e =
    commands_step n q x t
    ∙ with_command_parts (command_fault p (x ∷ t)) (command_fault q (x ∷ t)) (command_of (x ∷ t))
    (commands_most n (p + size_in_front (x ∷ t)) (behind (x ∷ t))) (commands_most n (q + size_in_front (x ∷ t)) (behind (x ∷ t))) cs
    (sound_anywhere p q (nat_lt (length (x ∷ t)) 4) (is_unknown (slice_index (x ∷ t) 2)) (has_strange_option (x ∷ t))
    (nat_lt (length (x ∷ t)) (size_in_front (x ∷ t))))
    (λ others h. same_commands n (p + size_in_front (x ∷ t)) (q + size_in_front (x ∷ t)) (behind (x ∷ t)) others h)
    (sym (commands_step n p x t) ∙ e)

-- where no fault is told, no test holds
no_test_holds : (place : ℕ) (a b c d : Bool) → first_fault place a b c d ≡ None → (a ≡ false) × (d ≡ false)
no_test_holds place true b c d e = absurd (cc)
no_test_holds place false true c d e = absurd (cc)
no_test_holds place false false true d e = absurd (cc)
no_test_holds place false false false true e = absurd (cc)
no_test_holds place false false false false e = (refl, refl)

-- a command without a fault has its four bytes and its extra header
pub record WholeCommand (b : List ℕ) : Type 0 where
  pub front : 4 ≤ length b
  pub all : size_in_front b ≤ length b

pub whole_command : (place : ℕ) (b : List ℕ) → command_fault place b ≡ None → WholeCommand b
whole_command place b e =
    let none = no_test_holds place (nat_lt (length b) 4) (is_unknown (slice_index b 2)) (has_strange_option b) (nat_lt (length b) (size_in_front b)) e in
    let short : nat_lt (length b) 4 ≡ false = none.0 in
    let cut : nat_lt (length b) (size_in_front b) ≡ false = none.1 in record {
      front = ltb-false (length b) 4 short;
      all = ltb-false (length b) (size_in_front b) cut;
    }

-- the command in front of a list without faults
pub record FirstCommand (b : List ℕ) : Type 0 where
  pub sound : command_fault 0 b ≡ None
  pub others : IsOkAnd (commands (behind b)) (λ others. commands b ≡ Ok (command_of b ∷ others))

not_ok : (r : Result (List Command) BodyFault) (f : BodyFault) → r ≡ Err f → IsOk r → ⊥
not_ok (Ok cs) f e ok = absurd (cc)
not_ok (Err g) f e ok = absurd (cc)

first_of_parts : (b : List ℕ) (f : Option BodyFault) (r : Result (List Command) BodyFault)
    → command_fault 0 b ≡ f → commands b ≡ with_command f (command_of b) r
    → ((others : List Command) → r ≡ Ok others → commands (behind b) ≡ Ok others)
    → IsOk (commands b) → FirstCommand b
first_of_parts b (Some f) r fault e k ok = absurd (not_ok (commands b) f e ok)
first_of_parts b None (Err f) fault e k ok = absurd (not_ok (commands b) f e ok)
first_of_parts b None (Ok others) fault e k ok = record { sound = fault; others = rw (k others refl) e }

-- a list that is commands and isn't empty has one in front
pub first_command : (b : List ℕ) → 0 < length b → IsOk (commands b) → FirstCommand b
unfolding commands
first_command b h ok =
    first_of_parts b (command_fault 0 b) (commands_from (0 + size_in_front b) (behind b)) refl (front_and_behind 0 b h)
    (same_commands (length (behind b)) (0 + size_in_front b) 0 (behind b)) ok

-- the command at a place of a list that is commands from there on: its bytes are there, and others follow
pub record CommandAt (list : List ℕ) (at : ℕ) (front : List ℕ) : Type 0 where
  pub begins : 4 ≤ length front
  pub whole : size_in_front front ≤ length front
  pub within : at + size_in_front front ≤ length list
  pub others : IsOkAnd (commands (drop (at + size_in_front front) list)) (λ others. commands (drop at list) ≡ Ok (command_of front ∷ others))

command_at_place : (list : List ℕ) (at : ℕ) → at < length list → IsOk (commands (drop at list)) → CommandAt list at (drop at list)
command_at_place list at h ok =
    let first = first_command (drop at list) (omega (arith, length-drop at list)) ok in
    let whole = whole_command 0 (drop at list) first.sound in record {
      begins = whole.front;
      whole = whole.all;
      within = omega (arith, length-drop at list, whole.all);
      others = rw (← drop-drop (size_in_front (drop at list)) at list) first.others;
    }

pub command_at_front : (list front : List ℕ) (at : ℕ) → at < length list → front ≡ drop at list → IsOk (commands (drop at list))
    → CommandAt list at front
command_at_front list front at h is ok = rw is (command_at_place list at h ok)
