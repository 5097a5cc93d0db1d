use Rattle.std.proofs.Common.{◌≡◌, map, take, string_bytes}
use Rattle.std.specs.List.{flat_map}
use Rattle.qron_cli.specs.Serve.{shown, shown_line}
use Rattle.qron_cli.proofs.serve_command.shown_lines.Given as goal

abbrev pub invariant-loop-one : goal.invariant-loop-one
invariant-loop-one g l = string_bytes l.text ≡ flat_map shown_line (map shown (take l.one-index l.served))
