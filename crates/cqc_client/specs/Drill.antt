-- The drill: in each round two nodes share a pair, turn it and measure it.
use Rattle.std.specs.Prelude.{◌≡◌, ℕ, zero, suc, ◌+◌, ◌*◌, ◌^◌, ◌%◌, List, [], ◌∷◌, ◌++◌, false}
use Rattle.cqc_model.specs.declared.Command.{Command}
use Rattle.cqc_model.specs.declared.Remote.{Remote}
use Rattle.cqc_model.specs.declared.Instr.{Instr}
use Rattle.cqc_model.specs.declared.Instr.TheVariants.{Epr, EprRecv, H, RotZ, Measure}
use Rattle.cqc_model.specs.declared.Head.TheVariants.{Commands}
use Rattle.cqc_model.specs.Wire.{spell_message}
use Rattle.cqc_client.specs.declared.plan.DrillPlan.{DrillPlan}

-- application 0 at port 8822 of 127.0.0.1
abbrev pub second_node : Remote
second_node = record { app = 0; port = 8822; node = 127 * 2 ^ 24 + 1 }

-- a command on qubit 0, without options
abbrev pub on_zero : Instr → Command
on_zero instr = record { qubit = 0; instr = instr; notify = false; block = false }

-- the first connection makes the pair and turns its half: round by round by one eighth of a turn more
abbrev pub first_list : ℕ → List Command
first_list round = on_zero (Epr second_node) ∷ on_zero H ∷ on_zero (RotZ (32 * (round % 8))) ∷ on_zero Measure ∷ []

-- the second connection takes the other half
abbrev pub second_list : ℕ → List Command
second_list round = on_zero EprRecv ∷ on_zero H ∷ on_zero Measure ∷ []

-- commands as one COMMAND message of application 0
abbrev pub spell_commands : List Command → List ℕ
spell_commands list = spell_message (Commands 0) list

-- the connections in the order of their turns: each gives a turn to each of its commands, and the second waits for its half
abbrev pub turns : ℕ → List ℕ
turns round = 0 ∷ 1 ∷ 0 ∷ 1 ∷ 0 ∷ 0 ∷ 1 ∷ []

-- what each round gives, in order, from round 0 on
abbrev pub in_rounds : (ℕ → List ℕ) → ℕ → List ℕ
in_rounds of_round zero = []
in_rounds of_round (suc n) = in_rounds of_round n ++ of_round n

-- what each connection sends in so many rounds, and the connection of each turn
pub record IsDrill (plan : DrillPlan) (rounds : ℕ) : Type 0 where
  pub first : plan.first.items ≡ in_rounds (λ round. spell_commands (first_list round)) rounds
  pub second : plan.second.items ≡ in_rounds (λ round. spell_commands (second_list round)) rounds
  pub order : plan.order.items ≡ in_rounds turns rounds

-- a round was added behind those in front of it
pub record AddsRound (old new : DrillPlan) (round : ℕ) : Type 0 where
  pub first : new.first.items ≡ old.first.items ++ spell_commands (first_list round)
  pub second : new.second.items ≡ old.second.items ++ spell_commands (second_list round)
  pub order : new.order.items ≡ old.order.items ++ turns round
