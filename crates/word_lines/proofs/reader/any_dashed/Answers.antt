use Rattle.std.proofs.Common.{rules, tests, string_bytes, ◌∙◌}
use Rattle.std.proofs.lemmas.Iterator.{YieldsList-from_slice}
use Rattle.std.proofs.lemmas.Iterator.Search.{any_from_yields_List}
use Rattle.clap.proofs.WalkLemmas.{list_any-map}
use Rattle.word_lines.specs.Lines.{is_dashed}
use Rattle.word_lines.proofs.reader.any_dashed.Goals as goal

pub returns : goal.returns
returns c =
    any_from_yields_List (λ word. is_dashed (string_bytes word)) _ _ _ c.any.ensures.ran (YieldsList-from_slice c.args.words.now (cc)) (λ x b q k. search (rules, tests))
    ∙ (list_any-map is_dashed string_bytes c.args.words.now)
