-- What stays of a link in memory, over one call after another.
use Rattle.std.proofs.Common.{◌∙◌, refl}
use Rattle.std.proofs.Math.Nat.{le_refl, le_trans}
use Rattle.qron_link.specs.MemLinks.{Memory, IsSameLink, KeepsLeft}

pub same_link : (m : Memory) → IsSameLink m m
same_link m = record {
  piece = refl;
  bad_reads = refl;
  bad_writes = refl;
  size = refl;
  room = le_refl m.room;
  reads_well = λ _. refl;
  writes_well = λ _ _. refl;
}

pub same_link_on : (a b c : Memory) → IsSameLink a b → IsSameLink b c → IsSameLink a c
same_link_on a b c h k = record {
  piece = k.piece ∙ h.piece;
  bad_reads = k.bad_reads ∙ h.bad_reads;
  bad_writes = k.bad_writes ∙ h.bad_writes;
  size = k.size ∙ h.size;
  room = le_trans k.room h.room;
  reads_well = λ none. k.reads_well (h.bad_reads ∙ none) ∙ h.reads_well none;
  writes_well = λ none some. k.writes_well (h.bad_writes ∙ none) some ∙ h.writes_well none (le_trans some k.room);
}

pub keeps_left : (m : Memory) → KeepsLeft m m
keeps_left m = record { same = same_link m; left = refl; reads = refl; read_faults = refl }

pub keeps_left_on : (a b c : Memory) → KeepsLeft a b → KeepsLeft b c → KeepsLeft a c
keeps_left_on a b c h k = record {
  same = same_link_on a b c h.same k.same;
  left = k.left ∙ h.left;
  reads = k.reads ∙ h.reads;
  read_faults = k.read_faults ∙ h.read_faults;
}
