-- How many commands a message can ask: at most 255 rounds of 65,536 commands that ask 65,536 times each.
-- Main result: `rounds_few`.
use Rattle.std.proofs.Common.{ℕ, zero, suc, ◌+◌, ◌*◌, ◌<◌, ◌≤◌, List, [], ◌∷◌, length, drop, get_or, Result, Ok, Err, Option, None, Some, subst, sym, arith, length-append, length-drop}
use Rattle.std.specs.Prelude.{replicate}
use Rattle.std.specs.List.{flat_map}
use Rattle.std.proofs.lemmas.List.{get_or-drop, length-replicate}
use Rattle.cqc_model.specs.declared.Command.{Command}
use Rattle.cqc_model.specs.declared.Instr.{Instr}
use Rattle.cqc_model.specs.declared.Instr.TheVariants as instr
use Rattle.cqc_model.specs.declared.BodyFault.{BodyFault}
use Rattle.cqc_model.specs.Plan.{commands, commands_most, command_fault, command_of, with_command, unrolled, unrolled_as, body_limit}
use Rattle.cqc_wire.proofs.CommandLists.{commands_step, size_in_front, behind}
use Rattle.cqc_program.specs.Rounds.{listed, list_at, round_at, rounds_at}
use Rattle.cqc_program.specs.Walks.{walk_limit}

-- each is a byte
abbrev AreBytes : List ℕ → Type 0
AreBytes b = (i : ℕ) → get_or b i 0 < 256

-- each qubit number, and so each count of an ALLOCATE, has two bytes
abbrev HaveTwoBytes : List Command → Type 0
HaveTwoBytes [] = Unit {0}
HaveTwoBytes (c ∷ cs) = (c.qubit < 65536) × HaveTwoBytes cs

two_bytes : (b : List ℕ) → AreBytes b → (command_of b).qubit < 65536
two_bytes b h = omega (arith, h 0, h 1)

have_with : (f : Option BodyFault) (c : Command) (r : Result (List Command) BodyFault) → c.qubit < 65536 → HaveTwoBytes (listed r) → HaveTwoBytes (listed (with_command f c r))
have_with None c (Ok cs) h k = (h, k)
have_with None c (Err f) h k = tt
have_with (Some f) c r h k = tt

have_most : (n place : ℕ) (b : List ℕ) → AreBytes b → HaveTwoBytes (listed (commands_most n place b))
have_most zero place b h = tt
have_most (suc n) place [] h = tt
have_most (suc n) place (x ∷ t) h =
    subst (λ (r : Result (List Command) BodyFault). HaveTwoBytes (listed r)) (sym (commands_step n place x t))
    (have_with (command_fault place (x ∷ t)) (command_of (x ∷ t)) _ (two_bytes (x ∷ t) h)
    (have_most n (place + size_in_front (x ∷ t)) (behind (x ∷ t)) (λ i. subst (λ v. v < 256) (sym (get_or-drop (size_in_front (x ∷ t)) (x ∷ t) i 0)) (h (size_in_front (x ∷ t) + i)))))

-- no more commands than bytes
few_with : (n : ℕ) (f : Option BodyFault) (c : Command) (r : Result (List Command) BodyFault) → length (listed r) ≤ n → length (listed (with_command f c r)) ≤ suc n
few_with n None c (Ok cs) h = omega arith
few_with n None c (Err f) h = omega arith
few_with n (Some f) c r h = omega arith

few_most : (n place : ℕ) (b : List ℕ) → length (listed (commands_most n place b)) ≤ n
few_most zero place b = omega arith
few_most (suc n) place [] = omega arith
few_most (suc n) place (x ∷ t) =
    subst (λ (r : Result (List Command) BodyFault). length (listed r) ≤ suc n) (sym (commands_step n place x t))
    (few_with n (command_fault place (x ∷ t)) (command_of (x ∷ t)) _ (few_most n _ _))

-- a command asks at most 65,536 times
few_copies : (i : Instr) (c : Command) → c.qubit < 65536 → length (unrolled_as i c) ≤ 65536
few_copies i c h = grind (arith, length-replicate c.qubit (record c { qubit = 0; instr = instr.New }))

few_unrolled : (cs : List Command) → HaveTwoBytes cs → length (flat_map unrolled cs) ≤ length cs * 65536
few_unrolled [] h = omega arith
few_unrolled (c ∷ cs) h = omega (arith, few_copies c.instr c h.0, few_unrolled cs h.1, length-append (unrolled c) (flat_map unrolled cs))

round_few : (body : List ℕ) (at : ℕ) → AreBytes body → length body ≤ body_limit → length (round_at body at) ≤ 4294967296
unfolding list_at commands
round_few body at h short =
    let part = drop at body in
    let bytes : AreBytes part = λ i. subst (λ v. v < 256) (sym (get_or-drop at body i 0)) (h (at + i)) in
    omega (arith, few_unrolled (listed (commands_most (length part) 0 part)) (have_most (length part) 0 part bytes), few_most (length part) 0 part, length-drop at body)

-- rounds ask fewer commands than the limit
pub rounds_few : (n : ℕ) (body : List ℕ) (at : ℕ) → AreBytes body → length body ≤ body_limit → n < 256 → length (rounds_at n body at) < walk_limit
rounds_few n body at h short few = omega (arith, few_rounds n (round_at body at) (round_few body at h short))
  where
    few_rounds : (n : ℕ) (round : List Command) → length round ≤ 4294967296 → length (flat_map (λ c. c) (replicate n round)) ≤ n * 4294967296
    few_rounds zero round h = omega arith
    few_rounds (suc n) round h = omega (arith, few_rounds n round h, length-append round (flat_map (λ c. c) (replicate n round)))
