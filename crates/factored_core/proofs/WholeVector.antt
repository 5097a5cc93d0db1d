-- The registers of all slots of cells that fit a state: each live number is in just one of them, and their product is the same as the
-- undivided vector.
use Rattle.std.proofs.Common.{◌≡◌, ℕ, zero, suc, ◌*◌, ◌<◌, ◌==◌, Bool, true, false, ◌&&◌, ◌||◌, List, [], ◌∷◌, ◌++◌, length, Option, Some, None, IsSome, refl, sym, ap, subst, ◌∙◌, arith}
use Rattle.state_model.specs.Coefficient.{Coefficient}
use Rattle.state_model.specs.Row.{is_listed}
use Rattle.state_model.specs.Registers.{register_vector, union_of, product_over, AreParts, AreDisjoint}
use Rattle.state_model.specs.StateVector.{Vector, IsPart, IsSameState}
use Rattle.state_model.proofs.Booleans.{clash, eq_of, eq_true, ne_of, or_true, both_true}
use Rattle.state_model.proofs.Numbers.{is_listed-snoc}
use Rattle.state_model.proofs.Operations.{over_more}
use Rattle.state_model.proofs.Products.{product_same}
use Rattle.network_model.specs.Network.{Network, Shape}
use Rattle.cell_laws.specs.Standing.{IsStanding}
use Rattle.core_cells.specs.Cells.{Cells, CellsFit, HasAllCells}
use Rattle.core_cells.specs.declared.cells.SlotCell.{SlotCell}
use Rattle.factored_core.specs.Laws.{group_in, group_at, groups_below}
use Rattle.factored_core.proofs.Changed.{there_is}

abbrev Groups : Type 0
Groups = List (List ℕ × Vector)

either : {P : Type 0} (a b : Bool) → (a || b) ≡ true → (a ≡ true → P) → (b ≡ true → P) → P
either true b e f g = f refl
either false b e f g = g e

-- ---- one group before others
union_more : (qs : List ℕ) (list : List Coefficient) (us : Groups) (q : ℕ) → is_listed (union_of (group_in qs list ++ us)) q ≡ (is_listed qs q || is_listed (union_of us) q)
unfolding group_in union_of is_listed
union_more [] list us q = refl
union_more (p ∷ ps) list us q = is_listed-snoc (p ∷ ps) (union_of us) q

parts_more : (v : Vector) (qs : List ℕ) (list : List Coefficient) (us : Groups) → ((p : ℕ) → is_listed qs p ≡ true → IsPart v qs (register_vector qs list)) → AreParts v us → AreParts v (group_in qs list ++ us)
unfolding group_in is_listed
parts_more v [] list us here rest = rest
parts_more v (p ∷ ps) list us here rest = (here p (ap (λ b. b || is_listed ps p) (eq_true p p refl)), rest)

disjoint_more : (qs : List ℕ) (list : List Coefficient) (us : Groups) → ((p : ℕ) → is_listed qs p ≡ true → is_listed (union_of us) p ≡ false) → AreDisjoint us → AreDisjoint (group_in qs list ++ us)
unfolding group_in
disjoint_more [] list us here rest = rest
disjoint_more (p ∷ ps) list us here rest = (here, rest)

still_listed : (o : Option SlotCell) (us : Groups) (q : ℕ) → is_listed (union_of us) q ≡ true → is_listed (union_of (group_at o ++ us)) q ≡ true
unfolding group_at
still_listed None us q e = e
still_listed (Some w) us q e =
    let a = w.register.value in union_more a.qubits a.list us q ∙ ap (λ b. is_listed a.qubits q || b) e ∙ or_true (is_listed a.qubits q)

module _ (shape : Shape) (s : Network) (home : ℕ → ℕ) (cs : Cells) (fit : CellsFit shape s home cs) where
  in_slot : (t : ℕ) (w : SlotCell) → cs.slot t ≡ Some w → (q : ℕ) → is_listed w.register.value.qubits q ≡ true → (is_listed s.live q ≡ true) × (home q ≡ t)
  in_slot t w at q e = let b = both_true (is_listed s.live q) (home q == t) (sym ((fit.slots t w at).homes q) ∙ e) in (b.0, eq_of (home q) t b.1)

  -- what is listed has its home below the count
  home_below : (n q : ℕ) → is_listed (union_of (groups_below n cs)) q ≡ true → (is_listed s.live q ≡ true) × (home q < n)
  unfolding groups_below group_at union_of is_listed
  home_below zero q e = absurd (clash (sym e))
  home_below (suc t) q e = by (λ f. let r = home_below t q f in let low = r.1 in (r.0, omega arith)) (cs.slot t) refl e
    where
      by : (is_listed (union_of (groups_below t cs)) q ≡ true → (is_listed s.live q ≡ true) × (home q < suc t)) → (o : Option SlotCell) → cs.slot t ≡ o → is_listed (union_of (group_at o ++ groups_below t cs)) q ≡ true → (is_listed s.live q ≡ true) × (home q < suc t)
      by later None at f = later f
      by later (Some w) at f =
          let a = w.register.value in
          either (is_listed a.qubits q) (is_listed (union_of (groups_below t cs)) q) (sym (union_more a.qubits a.list (groups_below t cs) q) ∙ f)
          (λ here. let r = in_slot t w at q here in let is = r.1 in (r.0, omega arith)) later

  -- a live number with its home below the count is listed
  listed_below : (n q : ℕ) → ((t : ℕ) → t < n → IsSome (cs.slot t)) → is_listed s.live q ≡ true → home q < n → is_listed (union_of (groups_below n cs)) q ≡ true
  unfolding groups_below group_at
  listed_below zero q all live low = absurd (omega arith)
  listed_below (suc t) q all live low = by (λ less. listed_below t q (λ u below. all u (omega arith)) live less) (home q == t) refl
    where
      by : (home q < t → is_listed (union_of (groups_below t cs)) q ≡ true) → (b : Bool) → (home q == t) ≡ b → is_listed (union_of (group_at (cs.slot t) ++ groups_below t cs)) q ≡ true
      by rest true e =
          let w = there_is (cs.slot t) (all t (omega arith)) in
          let a = (w.0).register.value in
          let here : is_listed a.qubits q ≡ true = (fit.slots t w.0 w.1).homes q ∙ ap (λ b. b && (home q == t)) live ∙ e in
          subst (λ (o : Option SlotCell). is_listed (union_of (group_at o ++ groups_below t cs)) q ≡ true) (sym w.1)
          (union_more a.qubits a.list (groups_below t cs) q ∙ ap (λ b. b || is_listed (union_of (groups_below t cs)) q) here)
      by rest false e = let other = ne_of (home q) t e in still_listed (cs.slot t) (groups_below t cs) q (rest (omega arith))

  parts_below : (n : ℕ) → AreParts s.vector (groups_below n cs)
  unfolding groups_below group_at
  parts_below zero = tt
  parts_below (suc t) = by (parts_below t) (cs.slot t) refl
    where
      by : AreParts s.vector (groups_below t cs) → (o : Option SlotCell) → cs.slot t ≡ o → AreParts s.vector (group_at o ++ groups_below t cs)
      by rest None at = rest
      by rest (Some w) at = parts_more s.vector w.register.value.qubits w.register.value.list (groups_below t cs) (fit.slots t w at).part rest

  disjoint_below : (n : ℕ) → AreDisjoint (groups_below n cs)
  unfolding groups_below group_at
  disjoint_below zero = tt
  disjoint_below (suc t) = by (disjoint_below t) (cs.slot t) refl
    where
      by : AreDisjoint (groups_below t cs) → (o : Option SlotCell) → cs.slot t ≡ o → AreDisjoint (group_at o ++ groups_below t cs)
      by rest None at = rest
      by rest (Some w) at = disjoint_more w.register.value.qubits w.register.value.list (groups_below t cs) apart rest
        where
          apart : (p : ℕ) → is_listed w.register.value.qubits p ≡ true → is_listed (union_of (groups_below t cs)) p ≡ false
          apart p here = on (is_listed (union_of (groups_below t cs)) p) refl
            where
              on : (b : Bool) → is_listed (union_of (groups_below t cs)) p ≡ b → is_listed (union_of (groups_below t cs)) p ≡ false
              on false e = e
              on true e = let low = (home_below t p e).1 in let is = (in_slot t w at p here).1 in absurd (omega arith)

pub product_is_whole : (shape : Shape) (s : Network) (home : ℕ → ℕ) (cs : Cells) → IsStanding shape s home → HasAllCells shape cs → CellsFit shape s home cs
    → IsSameState s.vector (product_over (groups_below (length shape.places * shape.room) cs))
product_is_whole shape s home cs standing all fit =
    let n = length shape.places * shape.room in
    product_same s.vector (groups_below n cs) standing.sound.some_row (over_more s.live (union_of (groups_below n cs)) s.vector (λ q none. by q none (is_listed s.live q) refl) standing.sound.over_live)
    (parts_below shape s home cs fit n) (disjoint_below shape s home cs fit n)
  where
    by : (q : ℕ) → is_listed (union_of (groups_below (length shape.places * shape.room) cs)) q ≡ false → (b : Bool) → is_listed s.live q ≡ b → is_listed s.live q ≡ false
    by q none false e = e
    by q none true e = absurd (clash (sym (listed_below shape s home cs fit (length shape.places * shape.room) q all.slots e (standing.homed q e)) ∙ none))
