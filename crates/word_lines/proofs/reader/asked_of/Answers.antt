use Rattle.std.proofs.Common.{◌≡◌, ℕ, List, Option, refl, ◌∙◌}
use Rattle.word_lines.specs.Views.{talk_found}
use Rattle.word_lines.proofs.reader.asked_of.Goals as goal

found_there : (o p q a b c : Option (List ℕ)) → o ≡ a → p ≡ b → q ≡ c → talk_found o p q ≡ talk_found a b c
found_there o p q a b c first second third = rw (first, second, third) refl

pub returns-in-Talk : goal.returns-in-Talk
returns-in-Talk c =
    rw (c.in-Talk.is) (c.talk_asked.ensures ∙ found_there _ _ _ _ _ _ c.get_str-in-Talk.ensures c.get_str-in-Talk-2.ensures c.get_str-in-Talk-3.ensures)
