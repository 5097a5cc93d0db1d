-- What holds and passes are behind a look and behind a commit.
use Rattle.std.proofs.Common.{◌≡◌, ℕ, ◌+◌, ◌≤◌, List, [], ◌∷◌, ◌++◌, Bool, true, false, cond, Option, None, Some, option_map, refl, ap, sym, ◌∙◌, subst, length, length-append}
use Rattle.state_model.proofs.Booleans.{clash}
use Rattle.network_model.specs.Network.{Shape}
use Rattle.network_model.specs.History.{IsLegal}
use Rattle.network_model.specs.declared.Entry.{Entry}
use Rattle.register_locks.specs.declared.slot.Slot.{Slot}
use Rattle.register_locks.specs.Slots.{Holding}
use Rattle.commit_journal.specs.Touching.{touches}
use Rattle.commit_journal.specs.Views.{Stamp, Worker}
use Rattle.commit_journal.specs.Keeping.{LastTouch}
use Rattle.commit_journal.specs.Holding.{IsHeld, AllFit, AreFresh, AreIdle, IsEntered, HasEntry, map_values, is_ready, committed_stamp, forgotten_stamp, DependsOnTouched}
use Rattle.commit_journal.proofs.Slots.{all_mapped}
use Rattle.commit_journal.proofs.Keeps.{are_next, next_touched, ready_next, last_here, last_other}

some_of : {C : Type 0} (f : C → C) (o : Option C) (x : C) → option_map f o ≡ Some x → (y : C) × (o ≡ Some y) × (f y ≡ x)
some_of f None x e = absurd (cc (e))
some_of f (Some y) x e = (y, refl, cc (e))

-- ---- cells without their next values
module _ {C : Type 0} (forgotten : C → C) (slots : List (Slot (Stamp C))) where
  pub forgotten_fit : (fits : Shape → ℕ → C → List Entry → Type 0) (shape : Shape) (log : List Entry) → ((n : ℕ) (c : C) → fits shape n c log → fits shape n (forgotten c) log)
      → AllFit fits shape slots log → AllFit fits shape (map_values (forgotten_stamp forgotten) slots) log
  forgotten_fit fits shape log law all v x held at = all_mapped (forgotten_stamp forgotten) slots (λ w. (y : C) → w.cell ≡ Some y → fits shape w.number y log)
      (λ c there y is. let z = some_of forgotten c.cell y is in subst (λ w. fits shape c.number w log) z.2 (law c.number z.0 (all c z.0 there z.1))) v held x at

  pub forgotten_idle : (has_next : C → Bool) → ((c : C) → has_next (forgotten c) ≡ false) → AreIdle has_next (map_values (forgotten_stamp forgotten) slots)
  forgotten_idle has_next law v x held at = all_mapped (forgotten_stamp forgotten) slots (λ w. (y : C) → w.cell ≡ Some y → has_next y ≡ false)
      (λ c there y is. let z = some_of forgotten c.cell y is in ap has_next (sym z.2) ∙ law z.0) v held x at

  pub forgotten_fresh : (shape : Shape) (log : List Entry) → AreFresh shape slots log → AreFresh shape (map_values (forgotten_stamp forgotten) slots) log
  forgotten_fresh shape log all = all_mapped (forgotten_stamp forgotten) slots (λ w. LastTouch shape w.number log (length w.seen)) all

-- ---- cells behind a commit
module _ {C : Type 0} (fits : Shape → ℕ → C → List Entry → Type 0) (has_next : C → Bool) (settled : C → C) (shape : Shape) (cells : ℕ) (slots : List (Slot (Stamp C))) (h : List Entry) (e : Entry)
    (entered : IsEntered fits has_next settled shape cells slots h e) where
  abbrev settled_stamp : Stamp C → Stamp C
  settled_stamp c = record { number = c.number; cell = option_map settled c.cell; seen = h ++ e ∷ [] }

  -- a fact of what is held then: of settled cells that were touched, and of those that weren't
  all_committed : (Q : Stamp C → Type 0) → ((c : Stamp C) → IsHeld slots c → is_ready has_next c.cell ≡ true → Q (settled_stamp c))
      → ((c : Stamp C) → IsHeld slots c → touches shape h e c.number ≡ false → Q c) → (v : Stamp C) → IsHeld (map_values (committed_stamp has_next settled (h ++ e ∷ [])) slots) v → Q v
  all_committed Q touched missed = all_mapped (committed_stamp has_next settled (h ++ e ∷ [])) slots Q (λ c held. by c held (is_ready has_next c.cell) refl)
    where
      untouched : (c : Stamp C) → IsHeld slots c → is_ready has_next c.cell ≡ false → (b : Bool) → touches shape h e c.number ≡ b → touches shape h e c.number ≡ false
      untouched c held idle false t = t
      untouched c held idle true t =
          let r = entered.next c held t in
          let same : is_ready has_next c.cell ≡ true = ap (is_ready has_next) r.1 ∙ r.2 in
          absurd (clash (sym same ∙ idle))

      by : (c : Stamp C) → IsHeld slots c → (b : Bool) → is_ready has_next c.cell ≡ b → Q (cond b (settled_stamp c) c)
      by c held true ready = touched c held ready
      by c held false idle = missed c held (untouched c held idle (touches shape h e c.number) refl)

  -- all held cells fit the history with the entry
  committed_fit : ((n : ℕ) (c : C) → fits shape n c h → touches shape h e n ≡ false → fits shape n c (h ++ e ∷ [])) → AllFit fits shape slots h
      → AllFit fits shape (map_values (committed_stamp has_next settled (h ++ e ∷ [])) slots) (h ++ e ∷ [])
  committed_fit law all v x held at = all_committed (λ w. (y : C) → w.cell ≡ Some y → fits shape w.number y (h ++ e ∷ []))
      (λ c there ready y is.
      let z = some_of settled c.cell y is in
      let next : has_next z.0 ≡ true = ap (is_ready has_next) (sym z.1) ∙ ready in
      subst (λ (w : C). fits shape c.number w (h ++ e ∷ [])) z.2 (are_next fits has_next settled shape cells slots h e entered c z.0 there z.1 next))
      (λ c there missed y is. law c.number y (all c y there is) missed) v held x at

  -- and their stamps are the kept numbers
  committed_fresh : AreFresh shape slots h → AreFresh shape (map_values (committed_stamp has_next settled (h ++ e ∷ [])) slots) (h ++ e ∷ [])
  committed_fresh all = all_committed (λ w. LastTouch shape w.number (h ++ e ∷ []) (length w.seen))
      (λ c there ready.
      let x = ready_next has_next c.cell ready in
      let touched = next_touched fits has_next settled shape cells slots h e entered c x.0 there x.1 x.2 in
      subst (λ (k : ℕ). LastTouch shape c.number (h ++ e ∷ []) k) (sym (length-append h (e ∷ []))) (last_here shape c.number h e touched))
      (λ c there missed. last_other shape c.number h e (length c.seen) missed (all c there))

-- what is held behind a commit, where what was compared before it hasn't changed
pub committed_ends : {C : Type 0} (fits : Shape → ℕ → C → List Entry → Type 0) (has_next : C → Bool) (settled : C → C) (shape : Shape) (cells : ℕ) (h₀ h₁ h₂ : Holding (Stamp C)) (j₀ j₁ j₂ j₃ : List Entry) (e : Entry)
    → HasEntry fits has_next settled shape cells h₀.slots e → IsLegal shape j₀ → AllFit fits shape h₀.slots j₀ → AreFresh shape h₀.slots j₀
    → ((n : ℕ) (c : C) → IsLegal shape (j₀ ++ e ∷ []) → fits shape n c j₀ → touches shape j₀ e n ≡ false → fits shape n c (j₀ ++ e ∷ []))
    → h₁ ≡ h₀ → j₁ ≡ j₀ → j₃ ≡ j₂ → j₂ ≡ j₁ ++ e ∷ [] → h₂ ≡ record h₁ { slots = map_values (committed_stamp has_next settled (j₁ ++ e ∷ [])) h₁.slots }
    → AllFit fits shape h₂.slots j₃ × AreFresh shape h₂.slots j₃
committed_ends {C} fits has_next settled shape cells h₀ h₁ h₂ j₀ j₁ j₂ j₃ e has legal all fresh law same_hold same_journal noted entry held =
    let entered = has j₀ legal all in
    let log : j₃ ≡ j₀ ++ e ∷ [] = noted ∙ entry ∙ ap (λ (l : List Entry). l ++ e ∷ []) same_journal in
    let slots : h₂.slots ≡ map_values (committed_stamp has_next settled (j₀ ++ e ∷ [])) h₀.slots =
    ap (λ (h : Holding (Stamp C)). h.slots) held ∙ ap (λ (l : List Entry). map_values (committed_stamp has_next settled (l ++ e ∷ [])) h₁.slots) same_journal
    ∙ ap (λ (h : Holding (Stamp C)). map_values (committed_stamp has_next settled (j₀ ++ e ∷ [])) h.slots) same_hold in
    subst (λ (l : List Entry). AllFit fits shape h₂.slots l × AreFresh shape h₂.slots l) (sym log)
    (subst (λ (ss : List (Slot (Stamp C))). AllFit fits shape ss (j₀ ++ e ∷ []) × AreFresh shape ss (j₀ ++ e ∷ [])) (sym slots) (
      committed_fit fits has_next settled shape cells h₀.slots j₀ e entered (λ n c fit missed. law n c entered.legal fit missed) all,
      committed_fresh fits has_next settled shape cells h₀.slots j₀ e entered fresh,
    ))

-- ---- passes
pub told_as : (p q new : Worker) (h k : List Entry) → p ≡ q → h ≡ k → new ≡ record { seat = p.seat; made = p.made; seen = h } → new ≡ record { seat = q.seat; made = q.made; seen = k }
told_as p q new h k same is told = told ∙ ap (λ (w : Worker). record { seat = w.seat; made = w.made; seen = h }) same ∙ ap (λ (l : List Entry). record { seat = q.seat; made = q.made; seen = l }) is

pub noted_as : (p q new : Worker) (h k : List Entry) → p ≡ q → h ≡ k → new ≡ record { seat = p.seat; made = p.made + 1; seen = h } → new ≡ record { seat = q.seat; made = q.made + 1; seen = k }
noted_as p q new h k same is told = told ∙ ap (λ (w : Worker). record { seat = w.seat; made = w.made + 1; seen = h }) same ∙ ap (λ (l : List Entry). record { seat = q.seat; made = q.made + 1; seen = l }) is

-- ---- what is left depends on the touched cells alone
pub depends : {C : Type 0} (fits : Shape → ℕ → C → List Entry → Type 0) (has_next : C → Bool) (settled : C → C)
    → ((shape : Shape) (n : ℕ) (c d : C) (h k : List Entry) → 1 ≤ shape.limit → IsLegal shape h → fits shape n c h → fits shape n d h → fits shape n c k → fits shape n d k)
    → DependsOnTouched fits has_next settled
depends fits has_next settled alike shape cells slots e limit has h k legal_h legal_k fit_h fit_k n d lt touched fit =
    let at_h = has h legal_h fit_h in
    let at_k = has k legal_k fit_k in
    let c = at_h.held n lt touched in
    let x = at_h.next c.0 c.1 (ap (touches shape h e) c.2 ∙ touched) in
    let touched_k : touches shape k e c.0.number ≡ true = next_touched fits has_next settled shape cells slots k e at_k c.0 x.0 c.1 x.1 x.2 in
    let y = at_k.next c.0 c.1 touched_k in
    let same : y.0 ≡ x.0 = cc (y.1, x.1) in
    alike shape n (settled x.0) d (h ++ e ∷ []) (k ++ e ∷ []) limit at_h.legal (subst (λ (m : ℕ). fits shape m (settled x.0) (h ++ e ∷ [])) c.2 x.3) fit
    (subst (λ (m : ℕ). fits shape m (settled x.0) (k ++ e ∷ [])) c.2 (subst (λ z. fits shape c.0.number (settled z) (k ++ e ∷ [])) same y.3))
