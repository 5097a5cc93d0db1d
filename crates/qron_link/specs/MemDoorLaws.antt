-- What stays of a door in memory, over one knock after another.
use Rattle.std.proofs.Common.{◌∙◌, refl, length}
use Rattle.std.proofs.Math.Nat.{le_refl, le_trans}
use Rattle.qron_link.specs.MemDoors.{Doorway, IsSameDoor}

pub same_door : (d : Doorway) → IsSameDoor d d
same_door d = record { links = refl; fewer = le_refl (length d.left); bad = refl; well = λ _. refl; open_while = λ _. refl }

pub same_door_on : (a b c : Doorway) → IsSameDoor a b → IsSameDoor b c → IsSameDoor a c
same_door_on a b c h k = record {
  links = k.links ∙ h.links;
  fewer = le_trans k.fewer h.fewer;
  bad = k.bad ∙ h.bad;
  well = λ none. k.well (h.bad ∙ none) ∙ h.well none;
  open_while = λ some. k.open_while some ∙ h.open_while (le_trans some k.fewer);
}
