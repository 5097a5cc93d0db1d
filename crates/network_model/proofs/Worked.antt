-- Worked cases: the definitions compute them. Each case is a field of `worked`.
use Rattle.std.proofs.Common.{refl}
use Rattle.state_model.specs.Coefficient.{root, squares, is_positive_at, is_positive, is_less}
use Rattle.state_model.specs.Row.{is_set, turned, with_bit, is_listed, mask, within, rows_of, without}
use Rattle.state_model.specs.StateVector.{squares_over}
use Rattle.state_model.specs.Gate.{imaginary, matrix, entry, gate, controlled_not, controlled_phase, two_gate}
use Rattle.state_model.specs.Measurement.{weight_of, whole_weight, one_weight, draw, keep, raised, paired}
use Rattle.network_model.specs.Network.{opening, members, group_of, held_number, line_eq, is_in_queue, queue, load, places_of}
use Rattle.network_model.specs.Kinds.{exact, kind_of, takes_qubit, second_of, remote_of, line_of, is_inexact, is_measurement, is_making, is_pair}
use Rattle.network_model.specs.Step.{node_at, operand, own_number, other_number, remote_node, united_group, first_fault, refusal_of, refusal, least_from, least_free, least_id, least, joined, left, alone, with_label, unheld, without_first, outcome_of, taken_out, left_as, measured, measured_reply, pair_info, receipt_reply, received_first, received, quiet, after_gate, after_two, effect_of, effect, draws}
use Rattle.network_model.specs.History.{is_error, advance}
use Rattle.network_model.specs.Factored.{homes_by, homes_step, homes_from, homes_after, used_slots, moved, gathered, parted}
use Rattle.network_model.specs.Cases.{ZeroProbability, Certainty, Tie, IrrationalThreshold, PairAgrees, OrderOfRefusals, RegisterLimit, Teleportation, HomesMove}

pub record AreWorked : Type 0 where
  pub zero_probability : ZeroProbability
  pub certainty : Certainty
  pub tie : Tie
  pub irrational_threshold : IrrationalThreshold
  pub pair_agrees : PairAgrees
  pub order_of_refusals : OrderOfRefusals
  pub register_limit : RegisterLimit
  pub teleportation : Teleportation
  pub homes_move : HomesMove

pub worked : AreWorked
unfolding root squares is_positive_at is_positive is_less is_set turned with_bit is_listed mask within rows_of squares_over imaginary matrix entry gate controlled_not controlled_phase two_gate weight_of whole_weight one_weight draw keep raised paired opening members group_of held_number line_eq is_in_queue queue load places_of exact kind_of takes_qubit second_of remote_of line_of is_inexact is_measurement is_making is_pair node_at operand own_number other_number remote_node united_group first_fault refusal_of refusal least_from least_free least_id least joined without left alone with_label unheld without_first outcome_of taken_out left_as measured measured_reply pair_info receipt_reply received_first received quiet after_gate after_two effect_of effect draws is_error advance homes_by homes_step homes_from homes_after used_slots moved gathered parted
worked = record {
  zero_probability = record { least = refl; greatest = refl };
  certainty = refl;
  tie = record { below = refl; half = refl };
  irrational_threshold = record { below = refl; above = refl };
  pair_agrees = record { ones = refl; zeros = refl };
  order_of_refusals = refl;
  register_limit = refl;
  teleportation = record { corrected = refl; plain = refl };
  homes_move = record { apart = refl; joined = refl };
}
