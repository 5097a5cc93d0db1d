-- One read after another, one write after another, and faults that last.
use Rattle.std.proofs.Common.{◌≡◌, ℕ, List, [], ◌++◌, Option, None, Some, refl, sym, ap, ◌∙◌, append_assoc}
use Rattle.std.proofs.lemmas.List.{append-nil}
use Rattle.std.specs.Io.KnownBytes.{prepend_known, append_known}
use Rattle.qron_link.specs.Outside.{WasRead, WasWritten}

prepend_twice : (x y : List ℕ) (c : Option (List ℕ)) → prepend_known x (prepend_known y c) ≡ prepend_known (x ++ y) c
prepend_twice x y None = refl
prepend_twice x y (Some z) = ap Some (sym (append_assoc x y z))

append_twice : (x y : List ℕ) (c : Option (List ℕ)) → append_known (append_known c x) y ≡ append_known c (x ++ y)
append_twice x y None = refl
append_twice x y (Some z) = ap Some (append_assoc z x y)

pub read_on : (a b c : Option (List ℕ)) (x y : List ℕ) → WasRead a x b → WasRead b y c → WasRead a (x ++ y) c
read_on a b c x y f g = f ∙ ap (prepend_known x) g ∙ prepend_twice x y c

pub written_on : (a b c : Option (List ℕ)) (x y : List ℕ) → WasWritten a x b → WasWritten b y c → WasWritten a (x ++ y) c
written_on a b c x y f g = g ∙ ap (λ (o : Option (List ℕ)). append_known o y) f ∙ append_twice x y a

pub read_none : (a b : Option (List ℕ)) → b ≡ a → WasRead a [] b
read_none a None e = sym e
read_none a (Some x) e = sym e

pub written_none : (a b : Option (List ℕ)) → b ≡ a → WasWritten a [] b
written_none None b e = e
written_none (Some x) b e = e ∙ ap Some (sym (append-nil x))
