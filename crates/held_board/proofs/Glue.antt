-- Two parts that follow a whole, and a part of each: those two follow the whole. Assumes `Logic`.
use mathlib.Core.List.{[], ◌∷◌}
use seplogic.Ra.Ura.{Ura}
use base.Logic.{ent, sep, wand}
use base.Fml.{GName, fres}
use types.Logic.{Logic, sem}
use types.Kit.{‵, ◌⊛◌, ◌$◌, ◌∵◌, !, qed, by, move, use2, split, join, each, assume}
use types.Follow.{followed₂}
use denote.RattleType.{RattleType}
use denote.Memory.{mem}
use denote.Follow.{follows, follows_both, both_by, followed}

module _ {M : Type 1} {𝓤 : Ura M} (𝓛 : Logic 𝓤) (R S S' T U : RattleType) (F : S.Denot → S'.Denot → R.Denot) (G : T.Denot → S.Denot) (G' : U.Denot → S'.Denot) (γ δ δ' γ₁ γ₂ : GName) where
  open 𝓛 use {A}

  pub both_each : ent 𝓤 (sep 𝓤 (sem 𝓛 (follows_both R S S' γ δ δ' F)) (sep 𝓤 (sem 𝓛 (follows S T δ γ₁ G)) (sem 𝓛 (follows S' U δ' γ₂ G')))) (sem 𝓛 (follows_both R T U γ γ₁ γ₂ (λ x y. F (G x) (G' y))))
  unfolding both_by
  both_each =
      qed 𝓛 (‵ (follows_both R S S' γ δ δ' F) ∷ ‵ (follows S T δ γ₁ G) ∷ ‵ (follows S' U δ' γ₂ G') ∷ []) ∵
      each ! (λ (w : T.Denot × U.Denot). wand 𝓤 (sep 𝓤 (A.res γ₁ (T.coded.code w.0)) (A.res γ₂ (U.coded.code w.1))) (A.res γ (R.coded.code (F (G w.0) (G' w.1))))) (λ w.
      assume ! (‵ (fres γ₁ (T.coded.code w.0)) ⊛ ‵ (fres γ₂ (U.coded.code w.1))) $ split ! $
      -- [the last value of each part; how the whole follows; how each half does]
      move ! (3 ∷ 0 ∷ []) $ use2 𝓛 (‵ (fres δ (S.coded.code (G w.0)))) (followed 𝓛 S T G δ γ₁ w.0) $
      move ! (3 ∷ 1 ∷ []) $ use2 𝓛 (‵ (fres δ' (S'.coded.code (G' w.1)))) (followed 𝓛 S' U G' δ' γ₂ w.1) $
      move ! (1 ∷ 0 ∷ []) $ join ! $ by ! (followed₂ 𝓛 (mem R) (mem S) (mem S') F γ δ δ' (G w.0) (G' w.1)))
