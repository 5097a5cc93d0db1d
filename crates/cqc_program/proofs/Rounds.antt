-- Rounds of a body: how they go on from command to command, and what they ask in all.
-- Main results: `found`, `no_more`, `went_on`.
use Rattle.std.proofs.Common.{◌≡◌, ◌≢◌, ℕ, ◌<◌, ◌≤◌, List, [], ◌∷◌, ◌++◌, length, drop, Bool, true, false, ◌||◌, None, Some, Result, Ok, Err, IsOk, IsOkAnd, refl, sym, ap, ◌∙◌, arith}
use Rattle.std.specs.Prelude.{replicate}
use Rattle.std.specs.List.{flat_map}
use Rattle.std.proofs.lemmas.List.{drop_all}
use Rattle.cqc_model.specs.declared.Command.{Command}
use Rattle.cqc_model.specs.declared.BodyFault.{BodyFault}
use Rattle.cqc_model.specs.declared.Instr.TheVariants as instr
use Rattle.cqc_model.specs.Plan.{commands, unrolled}
use Rattle.cqc_program.specs.declared.round.Copies.{Copies}
use Rattle.cqc_program.specs.declared.round.Stand.{Stand}
use Rattle.cqc_program.specs.Rounds.{listed, list_at, round_at, notifies, notices, GoesOn}

-- the command at a place of a body, and those behind it
pub record AtCommand (body : List ℕ) (at next : ℕ) (c : Command) : Type 0 where
  pub others : List Command
  pub now : list_at body at ≡ c ∷ others
  pub after : list_at body next ≡ others
  pub sound : IsOk (commands (drop next body))

sound_by : (r : Result (List Command) BodyFault) (cs : List Command) → r ≡ Ok cs → IsOk r
sound_by (Ok ds) cs e = refl
sound_by (Err f) cs e = cc

at_by : (body : List ℕ) (at next : ℕ) (c : Command) (r : Result (List Command) BodyFault) → commands (drop next body) ≡ r
    → IsOkAnd r (λ others. commands (drop at body) ≡ Ok (c ∷ others)) → AtCommand body at next c
unfolding list_at
at_by body at next c (Ok others) e h = record {
  others = others;
  now = ap listed h;
  after = ap listed e;
  sound = sound_by (commands (drop next body)) others e;
}
at_by body at next c (Err f) e h = absurd h

pub at_command : (body : List ℕ) (at next : ℕ) (c : Command)
    → IsOkAnd (commands (drop next body)) (λ others. commands (drop at body) ≡ Ok (c ∷ others)) → AtCommand body at next c
at_command body at next c h = at_by body at next c (commands (drop next body)) refl h

-- no command is left at the end of a body
pub none_at : (body : List ℕ) (at : ℕ) → length body ≤ at → list_at body at ≡ []
unfolding list_at commands
none_at body at h = ap (λ (b : List ℕ). listed (commands b)) (drop_all at body h)

-- the round has passed commands that ask nothing
pub record Comes (body : List ℕ) (s : Stand) (at : ℕ) (noticed : Bool) : Type 0 where
  pub within : at ≤ length body
  pub sound : IsOk (commands (drop at body))
  pub asks : round_at body s.at ≡ round_at body at
  pub notify : (noticed || notifies (list_at body at)) ≡ notices body s

pub comes_first : (body : List ℕ) (s : Stand) → s.at ≤ length body → IsOk (commands (drop s.at body)) → Comes body s s.at s.noticed
comes_first body s h ok = record { within = h; sound = ok; asks = refl; notify = refl }

-- a NOTIFY that was passed still counts
still : (body : List ℕ) (at next : ℕ) (c : Command) (noticed : Bool) → AtCommand body at next c
    → ((noticed || c.notify) || notifies (list_at body next)) ≡ (noticed || notifies (list_at body at))
still body at next c noticed a =
    ap (λ (x : List Command). (noticed || c.notify) || notifies x) a.after ∙ passed noticed c.notify (notifies a.others)
    ∙ ap (λ (x : List Command). noticed || notifies x) (sym a.now)
  where
    passed : (a b c : Bool) → ((a || b) || c) ≡ (a || (b || c))
    passed true b c = refl
    passed false b c = refl

round_of : (body : List ℕ) (at next : ℕ) (c : Command) → AtCommand body at next c → round_at body at ≡ unrolled c ++ round_at body next
round_of body at next c a =
    ap (λ (x : List Command). flat_map unrolled x) a.now ∙ ap (λ (x : List Command). unrolled c ++ flat_map unrolled x) (sym a.after)

-- a command that asks nothing is passed
pub comes_on : (body : List ℕ) (s : Stand) (at next : ℕ) (noticed also : Bool) (c : Command) (copies : Copies) → Comes body s at noticed
    → next ≤ length body → AtCommand body at next c → also ≡ (noticed || c.notify) → unrolled c ≡ replicate copies.times copies.command → copies.times ≡ 0
    → Comes body s next also
comes_on body s at next noticed also c copies f within a is same zero_times = record {
  within = within;
  sound = a.sound;
  asks = f.asks ∙ round_of body at next c a ∙ ap (λ (x : List Command). x ++ round_at body next) (same ∙ ap (λ n. replicate n copies.command) zero_times);
  notify = ap (λ (b : Bool). b || notifies (list_at body next)) is ∙ still body at next c noticed a ∙ f.notify;
}

-- a command that asks something is found
pub found : (body : List ℕ) (s : Stand) (at next : ℕ) (noticed also : Bool) (c : Command) (copies : Copies) → Comes body s at noticed
    → next ≤ length body → AtCommand body at next c → also ≡ (noticed || c.notify) → unrolled c ≡ replicate copies.times copies.command → 0 < copies.times
    → copies.command.instr ≢ instr.Allocate → GoesOn body s (record { rounds = s.rounds; at = next; asked = Some copies; noticed = also })
found body s at next noticed also c copies f within a is same some allowed = record {
  rounds = refl;
  is = record { within = within; sound = a.sound; asked = (some, allowed) };
  asks = f.asks ∙ round_of body at next c a ∙ ap (λ (x : List Command). x ++ round_at body next) same;
  notify = ap (λ (b : Bool). b || notifies (list_at body next)) is ∙ still body at next c noticed a ∙ f.notify;
}

-- the round has come to its end
pub no_more : (body : List ℕ) (s : Stand) (at : ℕ) (noticed : Bool) → Comes body s at noticed → length body ≤ at
    → GoesOn body s (record { rounds = s.rounds; at = at; asked = None; noticed = noticed })
no_more body s at noticed f h = record {
  rounds = refl;
  is = record { within = f.within; sound = f.sound; asked = omega (arith, f.within) };
  asks = f.asks;
  notify = f.notify;
}
