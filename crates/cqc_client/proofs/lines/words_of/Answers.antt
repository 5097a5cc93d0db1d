use Rattle.std.proofs.Common.{◌≡◌, ℕ, ◌<◌, ◌^◌, List, [], ◌∷◌, ◌++◌, refl, ap, sym, ◌∙◌, arith}
use Rattle.std.proofs.lemmas.Nat.{from_be_bytes-to_be_bytes_2, from_be_bytes-to_be_bytes_4}
use Rattle.std.specs.Prelude.{codes}
use Rattle.std.specs.Fmt.{decimal}
use Rattle.cqc_model.specs.declared.PairInfo.{PairInfo}
use Rattle.cqc_model.specs.declared.Reply.TheVariants as reply
use Rattle.cqc_client.specs.Replies.{line_of}
use Rattle.cqc_client.proofs.lines.words_of.Goals as goal

pair_line : (id : ℕ) (p : PairInfo) → id < 2 ^ 16 → p.pair < 2 ^ 32
    → line_of (reply.Pair id p) ≡ codes "epr " ++ decimal id ++ codes " " ++ decimal p.pair ++ 10 ∷ []
pair_line id p h k = rw (from_be_bytes-to_be_bytes_2 id h, from_be_bytes-to_be_bytes_4 p.pair k) refl

pub returns-in-Pair-clause-line : goal.returns-in-Pair-clause-line
returns-in-Pair-clause-line c =
    let e : line_of (reply.Pair c.in-Pair.id c.in-Pair.info) ≡ codes "epr " ++ decimal c.in-Pair.id ++ codes " " ++ decimal c.in-Pair.info.pair ++ 10 ∷ [] = pair_line c.in-Pair.id c.in-Pair.info (omega arith) c.push-in-Pair-2.ensures.fits in
    let first : c.push-in-Pair.new.line.bytes ≡ codes "epr " ++ decimal c.in-Pair.id =
    c.push-in-Pair.ensures.bytes ∙ ap (λ (x : List ℕ). x ++ codes "epr " ++ decimal c.from-in-Pair.result) c.new-line.ensures
    ∙ ap (λ (n : ℕ). codes "epr " ++ decimal n) c.from-in-Pair.ensures in
    let second : c.push-in-Pair-2.new.line.bytes ≡ codes "epr " ++ decimal c.in-Pair.id ++ codes " " ++ decimal c.in-Pair.info.pair =
    c.push-in-Pair-2.ensures.bytes ∙ ap (λ (x : List ℕ). x ++ codes " " ++ decimal c.in-Pair.info.pair) first in
    ap (λ (x : List ℕ). x ++ 10 ∷ []) second ∙ sym e ∙ ap line_of (sym c.in-Pair.is)
