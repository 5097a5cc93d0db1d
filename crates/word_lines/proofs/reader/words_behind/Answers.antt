use Rattle.std.proofs.Common.{map, string_bytes, ap, ◌∙◌}
use Rattle.clap.specs.Faults.{is_simple_and_free}
use Rattle.clap.specs.Simple.{is_simple}
use Rattle.clap.specs.Words.{app_of, found_of}
use Rattle.word_lines.specs.Commands.{app_for}
use Rattle.word_lines.proofs.FoundLemmas.{finds_none, finds_some, found_text}
use Rattle.word_lines.proofs.CommandLemmas.{is_free, simple}
use Rattle.word_lines.proofs.ModeLemmas.{same_found, taken, refused}
use Rattle.word_lines.proofs.reader.words_behind.Goals as goal

pub found_in-requires-clause-simple : goal.found_in-requires-clause-simple
found_in-requires-clause-simple c = ap is_simple c.in_ok-command.ensures ∙ simple c.args.mode

pub found_in-requires-clause-free : goal.found_in-requires-clause-free
found_in-requires-clause-free c = ap is_simple_and_free c.in_ok-command.ensures ∙ is_free c.args.mode

pub returns-in_default : goal.returns-in_default
returns-in_default c =
    let words = map string_bytes c.args.words.now in
    refused c.args.mode words c.requires (finds_none (app_of c.in_ok-command.command) (app_for c.args.mode) words c.in_ok-found.field-0 c.in_ok-command.ensures c.in_ok-found.ensures c.in_default.is)

pub returns : goal.returns
returns c =
    let words = map string_bytes c.args.words.now in
    let app = app_for c.args.mode in
    let found = finds_some (app_of c.in_ok-command.command) app words c.in_ok-found.field-0 c.in-Some.found c.in_ok-command.ensures c.in_ok-found.ensures c.in-Some.is in
    c.asked_of.ensures ∙ same_found c.args.mode _ _ (found_text app words (found_of c.in-Some.found) found.1) ∙ taken c.args.mode words c.requires found.0
