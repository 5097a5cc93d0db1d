-- What transfers and refusals touch, and what new qubits take of the pool.
use Rattle.std.specs.Prelude.{ℕ, ◌≡◌, ◌==◌, ◌+◌, ◌%◌, ◌^◌, not, cond, ◌&&◌, Option, None}
use Rattle.state_model.specs.Row.{is_listed}
use Rattle.cqc_model.specs.declared.Fault.{Fault}
use Rattle.cqc_model.specs.declared.PairInfo.{PairInfo}
use Rattle.cqc_model.specs.declared.Remote.{Remote}
use Rattle.network_model.specs.Factored.{is_remote_refusal}
use Rattle.network_model.specs.declared.Call.{Call}
use Rattle.network_model.specs.declared.CoreReply.TheVariants as reply
use Rattle.network_model.specs.declared.Place.{Place}
use Rattle.core_cells.specs.Marks.{IsLeastListed}
use Rattle.core_cells.specs.Pool.{Pool}
use Rattle.factored_core.specs.declared.new_qubits.Vacancy.{Vacancy}
use Rattle.factored_core.specs.declared.new_qubits.PairVacancy.{PairVacancy}

-- the other node, if the fault tells that it was looked at
abbrev pub touched_by : Option ℕ → Fault → Option ℕ
touched_by other f = cond (is_remote_refusal (reply.Error f)) other None

-- the least free number and the least free slot are free no more
pub record IsTaken (v : Vacancy) (old new : Pool) : Type 0 where
  pub number_least : IsLeastListed old.numbers v.number
  pub slot_least : IsLeastListed old.slots v.slot
  pub numbers : (q : ℕ) → is_listed new.numbers q ≡ (is_listed old.numbers q && not (q == v.number))
  pub slots : (t : ℕ) → is_listed new.slots t ≡ (is_listed old.slots t && not (t == v.slot))
  pub pairs : new.pairs ≡ old.pairs

-- a slot and two numbers are free no more, and one more pair is counted
pub record IsPairTaken (v : PairVacancy) (old new : Pool) : Type 0 where
  pub mid : Pool
  pub first : IsTaken v.first old mid
  pub second_least : IsLeastListed mid.numbers v.second
  pub numbers : (q : ℕ) → is_listed new.numbers q ≡ (is_listed mid.numbers q && not (q == v.second))
  pub slots : new.slots ≡ mid.slots
  pub pair : v.pair ≡ old.pairs
  pub pairs : new.pairs ≡ (old.pairs + 1) % 2 ^ 32

-- what both holders of a pair are told, from the own node's place and the pair's number
abbrev pub info_of : Place → Call → Remote → ℕ → PairInfo
info_of p c r pair = record { node_a = p.address; port_a = p.port; app_a = c.app; node_b = r.node; port_b = r.port; app_b = r.app; pair = pair }
