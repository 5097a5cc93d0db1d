-- Two lists, copied to the front of a list one after the other.
use Rattle.std.proofs.Common.{◌≡◌, ℕ, ◌+◌, ◌≤◌, List, ◌++◌, length, take, sym, ap, ◌∙◌, arith}
use Rattle.std.proofs.lemmas.List.{length-append}
use Rattle.std.proofs.lemmas.Slice.{take-put_mid}
use Rattle.std.proofs.Math.Seq.{take-append_seam}
use borrow.Rule.Slice.PartMut.{put_mid}

pub joined_is : (first second f s zs : List ℕ) (k : ℕ) → f ≡ first → s ≡ second → take (length first + length second) (put_mid (length first) k (f ++ zs) s) ≡ first ++ second
joined_is first second f s zs k e d =
    take-put_mid (length first) k (f ++ zs) s (length first + length second) (ap (λ (l : List ℕ). length first + length l) (sym d)) room
    ∙ ap (λ (l : List ℕ). take (length first) (l ++ zs) ++ s) e ∙ ap (λ (l : List ℕ). l ++ s) (take-append_seam first zs) ∙ ap (λ (l : List ℕ). first ++ l) d
  where
    room : length first ≤ length (f ++ zs)
    room = let a = length-append f zs in let b = ap length e in omega (arith, a, b)
