use Rattle.std.proofs.Common.{ap, ◌∙◌, string_bytes}
use Rattle.cqc_server.specs.declared.record.Served.{Served}
use Rattle.qron_cli.specs.Serve.{shown, shown_line}
use Rattle.qron_cli.proofs.LineLemmas.{pushed}
use Rattle.qron_cli.proofs.ServeLemmas.{shown_next}
use Rattle.qron_cli.proofs.serve_command.shown_lines.Goals as goal

pub loop-one-preserved : goal.loop-one-preserved
loop-one-preserved g c =
    shown_next c.args.served.now c.loop-one.one-index c.one-item.result _ _ _ c.loop-one-test.true c.loop-one.invariant
    (c.as_str.ensures.value ∙ c.in-Ok.ensures ∙ ap (λ (s : Served g.row.L.Denot). shown_line (shown s)) c.one-item.is)
    (pushed c.push_str.result (string_bytes c.loop-one.text) c.as_str.result.now (string_bytes c.push_str.new.self) c.if-is_err.ensures.value c.push_str.ensures.bytes)
