-- Numbers that aren't listed by two registers.
use Rattle.std.proofs.Common.{◌≡◌, ℕ, false, List, [], ◌∷◌, refl, sym, ap, ◌∙◌}
use Rattle.state_model.specs.Row.{is_listed}
use Rattle.state_model.specs.Amplitudes.{Amplitudes}
use Rattle.state_model.proofs.Booleans.{clash}
use Rattle.state_model.proofs.Numbers.{other_unlisted}
use Rattle.register_merge.specs.Merging.{AreApart}

-- one number is apart from others that don't list it
pub one_apart : (a b : Amplitudes) (qs : List ℕ) (q : ℕ) → a.qubits ≡ qs → b.qubits ≡ q ∷ [] → is_listed qs q ≡ false → AreApart a b
one_apart a b qs q e f out p listed =
    ap (λ (g : List ℕ). is_listed g p) f
    ∙ other_unlisted q p (λ is. clash (sym listed ∙ ap (λ (g : List ℕ). is_listed g p) e ∙ ap (is_listed qs) (sym is) ∙ out))

pub three_five : is_listed (3 ∷ []) 5 ≡ false
unfolding is_listed
three_five = refl

pub pair_five : is_listed (3 ∷ 4 ∷ []) 5 ≡ false
unfolding is_listed
pair_five = refl
