use Rattle.std.proofs.Common.{◌≡◌, ◌^◌, to_z, of_z, true, sym, subst}
use mir.Syntax.{w128}
use Rattle.state_model.specs.Coefficient.{Weight, is_positive, is_less, scaled, weight_difference}
use Rattle.omega_ring.specs.Views.{weight_value}
use Rattle.state_model.proofs.Expressions.{same_weight}
use Rattle.born_draw.proofs.Leads.{read_lead, other_than_true}
use Rattle.born_draw.proofs.outcome.Goals as goal

pub returns-in-Positive : goal.returns-in-Positive
unfolding is_less
returns-in-Positive c =
    let above : Weight = record { x = to_z w128 (of_z w128 c.lead.result); y = to_z w128 (of_z w128 c.lead-2.result) } in
    let e : above ≡ weight_difference (scaled (2 ^ 64) (weight_value c.args.one)) (scaled c.args.word (weight_value c.args.whole)) =
    same_weight above _ (read_lead c.args.word c.args.one.x c.args.whole.x c.lead.result c.requires.one_x c.requires.whole_x c.lead.ensures.size c.lead.ensures.value)
    (read_lead c.args.word c.args.one.y c.args.whole.y c.lead-2.result c.requires.one_y c.requires.whole_y c.lead-2.ensures.size c.lead-2.ensures.value) in
    sym (subst (λ (w : Weight). is_positive w ≡ true) e (c.sign.ensures.positive.0 c.in-Positive.is))

pub returns-in_default : goal.returns-in_default
unfolding is_less
returns-in_default c =
    let above : Weight = record { x = to_z w128 (of_z w128 c.lead.result); y = to_z w128 (of_z w128 c.lead-2.result) } in
    let e : above ≡ weight_difference (scaled (2 ^ 64) (weight_value c.args.one)) (scaled c.args.word (weight_value c.args.whole)) =
    same_weight above _ (read_lead c.args.word c.args.one.x c.args.whole.x c.lead.result c.requires.one_x c.requires.whole_x c.lead.ensures.size c.lead.ensures.value)
    (read_lead c.args.word c.args.one.y c.args.whole.y c.lead-2.result c.requires.one_y c.requires.whole_y c.lead-2.ensures.size c.lead-2.ensures.value) in
    other_than_true _ (λ p. c.in_default.not-Positive (c.sign.ensures.positive.1 (subst (λ (w : Weight). is_positive w ≡ true) (sym e) p)))
