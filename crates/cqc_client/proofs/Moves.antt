-- One move of bytes after another.
use Rattle.std.proofs.Common.{ℕ, List, Option, refl}
use Rattle.qron_link.proofs.Known.{read_on, written_on, read_none, written_none}
use Rattle.cqc_client.specs.Talk.{Said, Moved}
use Rattle.cqc_client.proofs.Progress.{and_then, nothing_said}

pub moved_on : (a b : Said) (l m n h i j p q r : Option (List ℕ)) → Moved a l m h i p q → Moved b m n i j q r → Moved (and_then a b) l n h j p r
moved_on a b l m n h i j p q r f g = record {
  read = read_on l m n a.read b.read f.read g.read;
  sent = written_on h i j a.sent b.sent f.sent g.sent;
  printed = written_on p q r a.printed b.printed f.printed g.printed;
}

pub moved_none : (l h p : Option (List ℕ)) → Moved nothing_said l l h h p p
moved_none l h p = record { read = read_none l l refl; sent = written_none h h refl; printed = written_none p p refl }
