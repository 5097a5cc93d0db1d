-- Counts of faults over several calls.
use Rattle.std.proofs.Common.{ℕ, ◌≤◌, Option, List, arith, Ok, Err, Result}
use Rattle.qron_link.specs.Outside.{Rose}
use Rattle.cqc_client.specs.declared.stops.Stop.{Stop}
use Rattle.cqc_client.specs.declared.stops.Stop.TheVariants as stop
use Rattle.cqc_client.specs.Talk.{LinkReadCause, LinkWriteCause, OutWriteCause}
use Rattle.cqc_client.specs.Stops.{StopsDue, StopsHearing, Hears, SendFaults, StopReads, StopSends, StopPrints, talked_at}

rose_on : (a b c : ℕ) → a ≤ b → Rose b c → Rose a c
rose_on a b c h r = omega arith

pub reads_on : (s : Stop) (a b c : ℕ) → a ≤ b → StopReads s b c → StopReads s a c
reads_on stop.NotRead a b c h f = (omega (arith, f.0), rose_on a b c h f.1)
reads_on _ a b c h f = omega (arith, h, f)

pub sends_on : (s : Stop) (a b c : ℕ) → a ≤ b → StopSends s b c → StopSends s a c
sends_on stop.NotSent a b c h f = (omega (arith, f.0), rose_on a b c h f.1)
sends_on _ a b c h f = omega (arith, h, f)

pub prints_on : (s : Stop) (a b c : ℕ) → a ≤ b → StopPrints s b c → StopPrints s a c
prints_on stop.NotPrinted a b c h f = (omega (arith, f.0), rose_on a b c h f.1)
prints_on _ a b c h f = omega (arith, h, f)

-- where a reply was due, no write failed
pub due_prints : (s : Stop) (app : ℕ) (part : List ℕ) (left : Option (List ℕ)) (now count : ℕ) → StopsDue s app part left now → StopPrints s count count
due_prints stop.NotSent app part left now count d = absurd d
due_prints stop.NotPrinted app part left now count d = absurd d
due_prints _ app part left now count d = omega arith

-- nor did a write of the link where replies were heard
hearing_sends : (s : Stop) (app : ℕ) (part tail : List ℕ) (left : Option (List ℕ)) (now a b : ℕ) → StopsHearing s app part tail left now → a ≤ b → StopSends s a b
hearing_sends stop.NotSent app part tail left now a b d h = absurd (d.0)
hearing_sends _ app part tail left now a b d h = h

pub hears_sends : (r : Result (Unit {0}) Stop) (app : ℕ) (came shown : List ℕ) (left : Option (List ℕ)) (now a b : ℕ) → Hears r app came shown left now → a ≤ b
    → SendFaults r a b
hears_sends (Ok u) app came shown left now a b d h = h
hears_sends (Err s) app came shown left now a b d h = hearing_sends s app d.part d.tail left now a b d.stops h

pub talk_reads : (s : Stop) (n a b c : ℕ) → a ≤ b → StopReads s b c → LinkReadCause (talked_at s n) a c
talk_reads stop.NotRead n a b c h f = (omega (arith, f.0), rose_on a b c h f.1)
talk_reads _ n a b c h f = omega (arith, h, f)

pub talk_writes : (s : Stop) (n a b c : ℕ) → a ≤ b → StopSends s b c → LinkWriteCause (talked_at s n) a c
talk_writes stop.NotSent n a b c h f = (omega (arith, f.0), rose_on a b c h f.1)
talk_writes _ n a b c h f = omega (arith, h, f)

pub talk_prints : (s : Stop) (n a b c : ℕ) → a ≤ b → StopPrints s b c → OutWriteCause (talked_at s n) a c
talk_prints stop.NotPrinted n a b c h f = (omega (arith, f.0), rose_on a b c h f.1)
talk_prints _ n a b c h f = omega (arith, h, f)
