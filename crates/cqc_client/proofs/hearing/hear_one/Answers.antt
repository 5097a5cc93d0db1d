use Rattle.std.proofs.Common.{[], refl, ◌∙◌}
use Rattle.qron_link.proofs.Known.{written_none}
use Rattle.cqc_client.proofs.Hearings.{due_stops, half_printed}
use Rattle.cqc_client.proofs.Faults.{due_prints}
use Rattle.cqc_client.proofs.hearing.hear_one.Goals as goal

pub returns-in-Err-clause-heard : goal.returns-in-Err-clause-heard
returns-in-Err-clause-heard g c =
    let t = c.in-Err.ensures.took in
    (t.0, [], t.1, written_none _ _ refl, due_stops c.in-Err.stop c.args.app t.0 _ _ t.2)

pub returns-in-Err-clause-prints : goal.returns-in-Err-clause-prints
returns-in-Err-clause-prints g c =
    let t = c.in-Err.ensures.took in
    due_prints c.in-Err.stop c.args.app t.0 _ _ _ t.2

pub returns-in-Err-send-clause-heard : goal.returns-in-Err-send-clause-heard
returns-in-Err-send-clause-heard g c =
    let t = c.in-Ok.ensures.took in
    let s = c.in-Err-send.ensures.sent in
    let h = half_printed _ _ c.args.app t.0 _ c.in-Ok.reply s.0 t.2.0 t.2.1 (c.as_bytes.ensures.value ∙ c.as_str.ensures.value ∙ c.line_of.ensures) s.1 in
    (t.0, h.0, t.1, h.1, h.2)
