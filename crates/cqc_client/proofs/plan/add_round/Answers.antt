use Rattle.std.proofs.Common.{List, ◌++◌, ap, ◌∙◌}
use Rattle.cqc_model.specs.declared.Command.{Command}
use Rattle.cqc_client.specs.Drill.{spell_commands}
use Rattle.cqc_client.proofs.plan.add_round.Goals as goal

pub returns : goal.returns
returns c =
    let plan = c.args.plan.now in record {
      first = c.in_ok-push_message.ensures ∙ ap (λ (list : List Command). plan.first.items ++ spell_commands list) c.first_list.ensures;
      second = c.in_ok-push_message-2.ensures ∙ ap (λ (list : List Command). plan.second.items ++ spell_commands list) c.second_list.ensures;
      order = c.in_ok-extend_from_slice.ensures.items;
    }
