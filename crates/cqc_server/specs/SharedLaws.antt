-- Calls of a connection over a shared core, one after the other.
use Rattle.std.specs.Prelude.{◌≡◌, ℕ, ◌≤◌, List, [], ◌++◌}
use Rattle.std.proofs.Common.{refl, sym, ap, subst, ◌∙◌, arith, append_assoc}
use Rattle.std.proofs.lemmas.List.{append-nil}
use Rattle.network_model.specs.declared.Entry.{Entry}
use Rattle.cqc_session.specs.SoloLaws.{word_is}
use Rattle.cqc_server.specs.Shared.{AtWork, own, WordedBehind, GaveUpEnough, HasWorked}

-- the same of entries one after the other
pub enough_on : (a b c : List Entry) (x y z : ℕ) → y ≤ z → GaveUpEnough a b x y → GaveUpEnough b c y z → GaveUpEnough a c x z
enough_on a b c x y z rises first second = λ few. omega (arith, first (omega (arith, rises, few)), second few)

-- nothing was executed
pub worked_nothing : (word : List ℕ → ℕ → ℕ → ℕ → ℕ) (a : AtWork) → HasWorked word a a
worked_nothing word a = record {
  seen = ([], append-nil a.pass.seen);
  place = refl;
  key = refl;
  seat = refl;
  serial = refl;
  worded = λ first w. w;
  more = omega arith;
  waited = λ _. omega arith;
}

-- calls one after the other
pub worked_on : (word : List ℕ → ℕ → ℕ → ℕ → ℕ) (a b c : AtWork) → HasWorked word a b → HasWorked word b c → HasWorked word a c
worked_on word a b c x y =
    let words : word b.key b.seat b.serial ≡ word a.key a.seat a.serial = word_is word b.key a.key b.seat b.serial a.seat a.serial x.key x.seat x.serial in
    record {
      seen = (x.seen.0 ++ y.seen.0, sym (append_assoc a.pass.seen x.seen.0 y.seen.0) ∙ ap (λ (es : List Entry). es ++ y.seen.0) x.seen.1 ∙ y.seen.1);
      place = y.place ∙ x.place;
      key = y.key ∙ x.key;
      seat = y.seat ∙ x.seat;
      serial = y.serial ∙ x.serial;
      worded = λ first w. subst (λ ws. WordedBehind ws first c) words
          (y.worded first (subst (λ ws. WordedBehind ws first b) (sym words) (x.worded first w)));
      more = omega (arith, x.more, y.more);
      waited = enough_on (own a.pass) (own b.pass) (own c.pass) a.gave_up b.gave_up c.gave_up y.more x.waited y.waited;
    }
