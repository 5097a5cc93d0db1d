-- A link that a door in memory hands out.
use Rattle.std.proofs.Common.{◌≡◌, ℕ, ◌-◌, List, ◌∷◌, length, take, refl, sym, ap, subst, ◌∙◌, arith}
use Rattle.qron_link.specs.MemLinks.{Memory}
use Rattle.qron_link.specs.MemDoors.{Doorway, IsRest, IsSameDoor}
use Rattle.qron_link.proofs.Rests.{rest_on}

-- a door with these links in all, of which these are left
abbrev pub doorway : List Memory → List Memory → List ℕ → ℕ → ℕ → ℕ → Doorway
doorway all left bad calls faults closings = record {
  handed = take (length all - length left) all;
  left = left;
  bad = bad;
  calls = calls;
  faults = faults;
  closings = closings;
}

pub one_out : (before : Doorway) (all old rest : List Memory) (link : Memory) (bad : List ℕ) (calls now faults closings : ℕ)
    → doorway all old bad calls faults closings ≡ before → IsRest old all → old ≡ link ∷ rest
    → IsSameDoor before (doorway all rest bad now faults closings)
one_out before all old rest link bad calls now faults closings is is_rest first =
    subst (λ (d : Doorway). IsSameDoor d (doorway all rest bad now faults closings)) is
    (record {
      links = rest_on all old rest link is_rest first ∙ sym is_rest;
      fewer = omega (arith, ap (λ (l : List Memory). length l) first);
      bad = refl;
      well = λ _. refl;
      open_while = λ _. refl;
    })
