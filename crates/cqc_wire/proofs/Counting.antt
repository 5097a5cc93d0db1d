-- How far a check of a body has come.
use Rattle.std.proofs.Common.{◌≡◌, ℕ, ◌+◌, ◌<◌, ◌≤◌, ◌*◌, List, length, drop, None, Some, Err, arith, ap, ◌∙◌, length-drop}
use Rattle.std.proofs.lemmas.List.{drop-drop}
use Rattle.cqc_model.specs.declared.BodyFault.{BodyFault}
use Rattle.cqc_model.specs.Plan.{commands, command_fault}
use Rattle.cqc_wire.specs.Body.{command_count}
use Rattle.cqc_wire.proofs.CommandLists.{commands_from, count_after, count_after_none, count_goes_on, count_ends, size_in_front, behind, whole_command}

-- the commands before a place were counted, and have no fault
pub record Counted (list : List ℕ) (at count : ℕ) : Type 0 where
  pub within : at ≤ length list
  pub few : 4 * count ≤ at
  pub more : command_count (commands list) ≡ count_after count (commands_from at (drop at list))

-- at the front nothing was counted
pub counted_none : (list : List ℕ) → Counted list 0 0
unfolding commands
counted_none list = record {
  within = omega arith;
  few = omega arith;
  more = count_after_none (commands_from 0 list);
}

-- what is behind the command at a place
further : (list front : List ℕ) (at : ℕ) → front ≡ drop at list → behind front ≡ drop (at + size_in_front front) list
further list front at is =
    ap (drop (size_in_front front)) is ∙ drop-drop (size_in_front front) at list

-- one command more was counted
pub counted_one : (list front : List ℕ) (at count : ℕ) → Counted list at count → at < length list → front ≡ drop at list
    → command_fault at front ≡ None → Counted list (at + size_in_front front) (count + 1)
counted_one list front at count before more is sound =
    let short : 0 < length front = omega (arith, ap length is, length-drop at list) in
    let whole = whole_command at front sound in record {
      within = omega (arith, ap length is, length-drop at list, whole.all);
      few = omega (arith, before.few);
      more = before.more ∙ (rw (← is) (count_goes_on count at front short sound)) ∙ ap (λ (rest : List ℕ). count_after (count + 1) (commands_from (at + size_in_front front) rest)) (further list front at is);
    }

-- a fault was found
pub counted_fault : (list front : List ℕ) (at count : ℕ) (f : BodyFault) → Counted list at count → at < length list → front ≡ drop at list
    → command_fault at front ≡ Some f → command_count (commands list) ≡ Err f
counted_fault list front at count f before more is fault =
    before.more ∙ (rw (← is) (count_ends count at front f (omega (arith, ap length is, length-drop at list)) fault))
