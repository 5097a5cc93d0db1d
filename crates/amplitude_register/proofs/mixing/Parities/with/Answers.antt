use Rattle.std.proofs.Common.{rules, ◌≡◌, ◌+ℤ◌, ◌-ℤ◌, ℤ, FitsSigned, refl}
use Rattle.std.proofs.lemmas.Int.{to_z-of_z}
use mir.Syntax.{w64}
use Rattle.omega_ring.specs.Views.{omega_value}
use Rattle.omega_ring.proofs.Short.{short, short_is, sum_is, difference_is}
use Rattle.amplitude_register.proofs.MixedParities.{joined_short, joined_turns, below_short}
use Rattle.amplitude_register.proofs.mixing.Parities.with.Goals as goal

pub returns : goal.returns
returns c =
    let a = c.args.z.a in let b = c.args.z.b in let k = c.args.z.c in let d = c.args.z.d in
    let r = c.requires in
    let total : FitsSigned w64 c.args.self.total = search rules in
    let turns : FitsSigned w64 c.args.self.turns = search rules in
    let steps : FitsSigned w64 c.args.self.steps = search rules in
    let first : FitsSigned w64 c.args.self.first = search rules in
    let one : FitsSigned w64 c.joined.result = search rules in
    let two : FitsSigned w64 c.joined-2.result = search rules in
    let three : FitsSigned w64 c.joined-3.result = search rules in
    let four : FitsSigned w64 c.joined-4.result = search rules in
    let five : FitsSigned w64 c.joined-5.result = search rules in
    record {
      total = joined_short c.joined.result _ (short c.args.self.total) _ c.args.self.total (a +ℤ b +ℤ k +ℤ d) (to_z-of_z w64 c.joined.result one) (to_z-of_z w64 c.args.self.total total) (sum_is a b k d r.a r.b r.c r.d) c.joined.ensures;
      turns = joined_turns _ (short c.joined-2.result) c.args.self.turns (omega_value c.args.z)
          (joined_short c.joined-2.result _ (short c.args.self.turns) _ c.args.self.turns (a -ℤ k) (to_z-of_z w64 c.joined-2.result two) (to_z-of_z w64 c.args.self.turns turns) (difference_is a k r.a r.c) c.joined-2.ensures)
          (joined_short c.joined-3.result _ (short c.joined-2.result) _ (short c.joined-2.result) (b -ℤ d) (to_z-of_z w64 c.joined-3.result three) refl (difference_is b d r.b r.d) c.joined-3.ensures);
      steps = joined_short c.joined-4.result _ (short c.args.self.steps) _ c.args.self.steps (a -ℤ b) (to_z-of_z w64 c.joined-4.result four) (to_z-of_z w64 c.args.self.steps steps) (difference_is a b r.a r.b) c.joined-4.ensures;
      first = joined_short c.joined-5.result _ (short c.args.self.first) (short a) c.args.self.first a (to_z-of_z w64 c.joined-5.result five) (to_z-of_z w64 c.args.self.first first) (short_is a (below_short a r.a)) c.joined-5.ensures;
    }
