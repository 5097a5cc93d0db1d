use Rattle.std.proofs.Common.{◌≡◌, false, map, string_bytes, sym, subst, ◌∙◌, inl, inr}
use Rattle.std.proofs.lemmas.Bool.{true≢false}
use denote.Enum.Bare.{sameb}
use Rattle.clap.specs.contracts.error.kind.ErrorKind.{the_type}
use Rattle.clap.specs.declared.error.kind.ErrorKind.{ErrorKind}
use Rattle.clap.specs.declared.error.kind.ErrorKind.TheVariants.{OutOfMemory}
use Rattle.clap.specs.Words.{app_of, fault_of, kind_of}
use Rattle.word_lines.proofs.FoundLemmas.{some_kinds}
use Rattle.word_lines.proofs.command.found_in.Goals as goal

pub returns-in-Ok : goal.returns-in-Ok
returns-in-Ok c =
    (c.in-Ok.ensures.kinds c.requires.free, (c.in-Ok.ensures.matches c.requires.simple).0)

pub returns : goal.returns
returns c =
    let words = map string_bytes c.args.words.now in
    let other : sameb the_type c.kind.result OutOfMemory ≡ false = sym c.eq.ensures ∙ c.if-eq.false in
    elim (c.in-Err.ensures.kinds c.requires.free) [
      | inl memory ↦ absurd (true≢false (subst (λ (k : ErrorKind). sameb the_type k OutOfMemory ≡ false) (c.kind.ensures ∙ memory) other))
      | inr refusal ↦ some_kinds (kind_of c.in-Err.error) (fault_of (app_of c.args.command) words) refusal
    ]
