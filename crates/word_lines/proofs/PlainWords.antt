-- Words without `-` in front are plain ones to clap's lexer: with these facts on the words of a line, `simp` computes
-- what clap's own definitions say of them, though the words are variables.
use Rattle.std.proofs.Common.{◌≡◌, ℕ, false, List, [], ◌∷◌, None, refl}
use Rattle.std.specs.Str.{bytes_eq}
use Rattle.std.proofs.lemmas.Bool.{and_left}
use Rattle.clap.specs.Lexer.{strip_byte}
use Rattle.word_lines.specs.Lines.{is_dashed}

pub no_hyphen : (word : List ℕ) → is_dashed word ≡ false → strip_byte 45 word ≡ None
no_hyphen [] plain = refl
no_hyphen (c ∷ cs) plain = rw plain

-- the word isn't `--`
pub no_end : (word : List ℕ) → is_dashed word ≡ false → bytes_eq word (45 ∷ 45 ∷ []) ≡ false
no_end [] plain = refl
no_end (c ∷ cs) plain = and_left _ _ plain
