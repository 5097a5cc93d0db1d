use Rattle.std.proofs.Common.{map, take, sym, subst}
use Rattle.state_model.specs.Amplitudes.{Amplitudes}
use Rattle.state_model.specs.CoefficientList.{HasDeltaDivisors}
use Rattle.state_model.proofs.RegisterSizes.{scaled_self}
use Rattle.omega_ring.specs.Views.{omega_value}
use Rattle.amplitude_register.specs.Held.{amplitudes_of}
use Rattle.amplitude_register.specs.States.{next_value}
use Rattle.amplitude_register.proofs.Fields.{block_room, open_value, same_front}
use Rattle.amplitude_register.proofs.SealedDrafts.{open_length, reduced_delta}
use Rattle.amplitude_register.proofs.register.Register.divide_draft.Goals as goal

pub common_front-requires-clause-rows : goal.common_front-requires-clause-rows
common_front-requires-clause-rows c = let i = c.self.invariant in block_room c.self.inside.limit c.self.inside.next i.next

pub divide_front-requires-clause-rows : goal.divide_front-requires-clause-rows
divide_front-requires-clause-rows c = let i = c.self.invariant in block_room c.self.inside.limit c.self.inside.next i.next

pub returns-in-Some-clause-rows : goal.returns-in-Some-clause-rows
returns-in-Some-clause-rows c = open_length c.args.self.now c.self.inside.limit (amplitudes_of c.self.inside.value) c.self.inside.stage (amplitudes_of c.self.inside.next) c.self.view_is c.requires.open (map omega_value (take c.self.inside.next.rows c.divide_front.new.entries.items)) (same_front c.divide_front.new.entries.items c.self.inside.next.entries.items c.self.inside.next.rows c.divide_front.ensures.room)

pub returns-in-Some-clause-divisors : goal.returns-in-Some-clause-divisors
returns-in-Some-clause-divisors c = let r = c.divide_front.ensures.reduced in reduced_delta (map omega_value (take c.self.inside.next.rows c.divide_front.new.entries.items)) r.reduced

pub returns-in_default-clause-scaled : goal.returns-in_default-clause-scaled
returns-in_default-clause-scaled c = scaled_self (next_value c.args.self.now.next).list

pub returns-in_default-clause-divisors : goal.returns-in_default-clause-divisors
returns-in_default-clause-divisors c = subst (λ (a : Amplitudes). HasDeltaDivisors a.list) (sym (open_value c.args.self.now c.self.inside.limit (amplitudes_of c.self.inside.value) c.self.inside.stage (amplitudes_of c.self.inside.next) c.self.view_is c.requires.open)) c.in_default.ensures
