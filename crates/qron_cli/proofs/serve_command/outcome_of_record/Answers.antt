use Rattle.std.proofs.Common.{length, sym, ap, ◌∙◌}
use Rattle.std.specs.List.{list_any}
use Rattle.qron_cli.specs.Serve.{is_door_fault}
use Rattle.qron_cli.proofs.ServeLemmas.{no_door_failed}
use Rattle.qron_cli.proofs.serve_command.outcome_of_record.Goals as goal

pub returns : goal.returns
returns g c =
    let kept = c.args.kept.now in
    no_door_failed kept.served.items _ kept.ends.items (length kept.entries.items) _
    (sym (ap (list_any is_door_fault) c.as_slice.ensures.value) ∙ sym c.any_door_fault.ensures ∙ c.if-any_door_fault.false) c.as_slice-2.ensures.value c.outcome_of_all.ensures
