-- Small groups stay small: through gates, measurements and new numbers.
use Rattle.std.proofs.Common.{◌≡◌, ◌≢◌, ℕ, ◌+◌, ◌^◌, ◌≤◌, ◌==◌, Bool, true, false, not, cond, ◌&&◌, ◌||◌, List, [], ◌∷◌, ◌++◌, length, filter, count_by, le_trans, refl, sym, ap, subst, ◌∙◌, arith}
use Rattle.std.proofs.lemmas.List.Sums.{length-filter, count_by-le-length}
use Rattle.state_model.specs.Coefficient.{zero_coefficient}
use Rattle.state_model.specs.Row.{is_listed}
use Rattle.state_model.specs.StateVector.{Vector, IsOver, HasSizeAtLeast}
use Rattle.state_model.specs.Gate.{Matrix, gate, two_gate}
use Rattle.state_model.specs.Measurement.{keep, raised}
use Rattle.network_model.specs.Network.{members}
use Rattle.network_model.specs.Step.{joined, left, alone}
use Rattle.state_model.specs.Row.{without}
use Rattle.state_model.specs.declared.Two.{Two}
use Rattle.state_model.proofs.Booleans.{and_false, clash, eq_true, eq_false, eq_of, ne_of, both_true, or_true}
use Rattle.state_model.proofs.Numbers.{is_listed-without, was_listed}
use Rattle.network_model.proofs.Slots.{is_listed-members}
use Rattle.state_model.proofs.Registers.{AreDistinct}
use Rattle.state_model.proofs.Linear.{IsHomogeneous, IsElsewhere, gate-IsHomogeneous, gate-IsElsewhere, keep-IsHomogeneous, keep-IsElsewhere, raised-IsHomogeneous, raised-IsElsewhere, two_gate-IsHomogeneous, two_gate-IsElsewhere}
use Rattle.state_model.proofs.Sizes.{size_elsewhere, size_kept, without_absent, not_in}
use Rattle.state_model.proofs.Gates.{determinant, gate_some_row, gate_over}
use Rattle.state_model.proofs.Operations.{two_gate-some_row, two_gate-over, keep_clear, keep-over, over_more, raised_set, raised-over, raised-some_row}
use Rattle.state_model.proofs.Small.{certain_small}
use Rattle.network_model.proofs.Counting.{count-cons, count-filter, count_listed}
use Rattle.network_model.proofs.Groups.{AreLabels, is_joined, joined_labels, members-joined_in, members-joined_out, members-left, left_labels, alone_labels, members-alone_self, members-alone_other}
use Rattle.network_model.proofs.Added.{was_or_new, members-added_self, members-added_other, added_labels}

-- a group is within the limit, and its size within the bound
pub record IsSmall (limit : ℕ) (v : Vector) (g : List ℕ) : Type 0 where
  pub few : length g ≤ limit
  pub size : ¬ HasSizeAtLeast v g (2 ^ 60)

-- the vector, the live numbers and the labels of a sound state
pub record AreGroups (limit : ℕ) (v : Vector) (live : List ℕ) (label : ℕ → ℕ) : Type 0 where
  pub some_row : ¬ ((x : ℕ) → v x ≡ zero_coefficient)
  pub over_live : IsOver live v
  pub once : (q : ℕ) → count_by (λ p. p == q) live ≤ 1
  pub labels : AreLabels live label
  pub groups : (q : ℕ) → is_listed live q ≡ true → IsSmall limit v (members live label (label q))

-- numbers that are counted once are distinct
pub distinct_once : (g : List ℕ) → ((q : ℕ) → count_by (λ p. p == q) g ≤ 1) → AreDistinct g
distinct_once [] once = tt
distinct_once (x ∷ xs) once = (
  unlisted (is_listed xs x) refl,
  distinct_once xs (λ q. rest _ _ (subst (λ n. n ≤ 1) (count-cons (λ p. p == q) x xs) (once q))),
)
  where
    rest : (m n : ℕ) → m + n ≤ 1 → n ≤ 1
    rest m n h = omega arith

    two : (n : ℕ) → 1 + n ≤ 1 → 1 ≤ n → ⊥
    two n a b = omega arith

    unlisted : (t : Bool) → is_listed xs x ≡ t → is_listed xs x ≡ false
    unlisted true e = absurd (two _ (subst (λ b. cond b 1 0 + count_by (λ p. p == x) xs ≤ 1) (eq_true x x refl) (subst (λ n. n ≤ 1) (count-cons (λ p. p == x) x xs) (once x))) (count_listed xs x e))
    unlisted false e = e

count-members : (live : List ℕ) (label : ℕ → ℕ) (l p : ℕ) → count_by (λ r. r == p) (members live label l) ≤ count_by (λ r. r == p) live
unfolding members
count-members live label l p = count-filter (λ r. r == p) _ live

count-without : (live : List ℕ) (q p : ℕ) → count_by (λ r. r == p) (without live q) ≤ count_by (λ r. r == p) live
unfolding without
count-without live q p = count-filter (λ r. r == p) _ live

module _ (limit : ℕ) (v : Vector) (live : List ℕ) (label : ℕ → ℕ) (sound : AreGroups limit v live label) where
  -- a number with another label is not in the group
  not_member : (q x : ℕ) → (label q == label x) ≡ false → is_listed (members live label (label x)) q ≡ false
  not_member q x e = is_listed-members live label (label x) q ∙ ap (λ b. is_listed live q && b) e ∙ and_false (is_listed live q)

  member : (q : ℕ) → is_listed live q ≡ true → is_listed (members live label (label q)) q ≡ true
  member q i = is_listed-members live label (label q) q ∙ ap (λ b. b && (label q == label q)) i ∙ eq_true _ _ refl

  -- a group elsewhere stays small
  elsewhere : (op : Vector → Vector) (x : ℕ) → is_listed live x ≡ true → IsHomogeneous op → IsElsewhere (members live label (label x)) op → IsSmall limit (op v) (members live label (label x))
  elsewhere op x i h acts = let was = sound.groups x i in record { few = was.few; size = λ large. was.size (size_elsewhere op _ h acts v (2 ^ 60) large) }

  -- ---- gates
  pub groups_gate : (m : Matrix) (q : ℕ) → determinant m ≢ zero_coefficient → is_listed live q ≡ true → ¬ HasSizeAtLeast (gate m q v) (members live label (label q)) (2 ^ 60) → AreGroups limit (gate m q v) live label
  groups_gate m q det inside small = record {
    some_row = gate_some_row m q v det sound.some_row;
    over_live = gate_over live m q v inside sound.over_live;
    once = sound.once;
    labels = sound.labels;
    groups = λ x i. by x i (label q == label x) refl;
  }
    where
      by : (x : ℕ) → is_listed live x ≡ true → (t : Bool) → (label q == label x) ≡ t → IsSmall limit (gate m q v) (members live label (label x))
      by x i true e = record { few = (sound.groups x i).few; size = subst (λ l. ¬ HasSizeAtLeast (gate m q v) (members live label l) (2 ^ 60)) (eq_of _ _ e) small }
      by x i false e = elsewhere (gate m q) x i (gate-IsHomogeneous m q) (gate-IsElsewhere _ m q (not_member q x e))

  pub groups_two : (k : Two) (a b : ℕ) → a ≢ b → is_listed live a ≡ true → is_listed live b ≡ true
      → length (filter (λ r. (label r == label a) || (label r == label b)) live) ≤ limit
      → ¬ HasSizeAtLeast (two_gate k a b v) (members live (joined label a b) (joined label a b a)) (2 ^ 60)
      → AreGroups limit (two_gate k a b v) live (joined label a b)
  groups_two k a b apart i j few small = record {
    some_row = two_gate-some_row k a b v apart sound.some_row;
    over_live = two_gate-over k live a b v j sound.over_live;
    once = sound.once;
    labels = joined_labels live label sound.labels a b i j;
    groups = λ x h. by x h (is_joined live label sound.labels a b x) refl;
  }
    where
      own : is_joined live label sound.labels a b a ≡ true
      own = unfold is_joined in ap (λ t. t || (label a == label b)) (eq_true _ _ refl)

      out_of : (x : ℕ) → is_joined live label sound.labels a b x ≡ false → ((label x == label a) || (label x == label b)) ≡ false
      out_of x e = unfold is_joined in e

      in_first : (x : ℕ) → is_joined live label sound.labels a b x ≡ false → (label a == label x) ≡ false
      in_first x e = eq_false _ _ (λ f. clash (sym (ap (λ t. t || (label x == label b)) (eq_true _ _ (sym f))) ∙ out_of x e))

      in_second : (x : ℕ) → is_joined live label sound.labels a b x ≡ false → (label b == label x) ≡ false
      in_second x e = eq_false _ _ (λ f. clash (sym (ap (λ t. (label x == label a) || t) (eq_true _ _ (sym f)) ∙ or_true (label x == label a)) ∙ out_of x e))

      by : (x : ℕ) → is_listed live x ≡ true → (t : Bool) → is_joined live label sound.labels a b x ≡ t → IsSmall limit (two_gate k a b v) (members live (joined label a b) (joined label a b x))
      by x h true e =
          let here = members-joined_in live label sound.labels a b x h e in
          let there = members-joined_in live label sound.labels a b a i own in
          record { few = subst (λ g. length g ≤ limit) (sym here) few; size = subst (λ g. ¬ HasSizeAtLeast (two_gate k a b v) g (2 ^ 60)) (there ∙ sym here) small }
      by x h false e = subst (λ g. IsSmall limit (two_gate k a b v) g) (sym (members-joined_out live label sound.labels a b x h e))
          (elsewhere (two_gate k a b) x h (two_gate-IsHomogeneous k a b) (two_gate-IsElsewhere k _ a b (not_member a x (in_first x e)) (not_member b x (in_second x e))))

  -- ---- measurements
  shorter : (g : List ℕ) (q : ℕ) → length (without g q) ≤ length g
  unfolding without
  shorter g q = subst (λ n. n ≤ length g) (sym (length-filter (λ p. not (p == q)) g)) (count_by-le-length (λ p. not (p == q)) g)

  -- what is kept of a group is small
  kept_small : (q : ℕ) (b : Bool) → ¬ ((x : ℕ) → keep q b v x ≡ zero_coefficient) → (x : ℕ) → is_listed live x ≡ true → IsSmall limit (keep q b v) (without (members live label (label x)) q)
  kept_small q b some x i = record {
    few = le_trans (shorter (members live label (label x)) q) (sound.groups x i).few;
    size = by (is_listed (members live label (label x)) q) refl;
  }
    where
      by : (t : Bool) → is_listed (members live label (label x)) q ≡ t → ¬ HasSizeAtLeast (keep q b v) (without (members live label (label x)) q) (2 ^ 60)
      by true e large = (sound.groups x i).size (size_kept _ q b v (2 ^ 60) (distinct_once _ (λ p. le_trans (count-members live label (label x) p) (sound.once p))) e some large)
      by false e large = (elsewhere (keep q b) x i (keep-IsHomogeneous q b) (keep-IsElsewhere _ q b e)).size (subst (λ g. HasSizeAtLeast (keep q b v) g (2 ^ 60)) (without_absent _ q e) large)

  pub groups_taken : (q : ℕ) (b : Bool) → is_listed live q ≡ true → ¬ ((x : ℕ) → keep q b v x ≡ zero_coefficient) → AreGroups limit (keep q b v) (without live q) (left live label q)
  groups_taken q b inside some = record {
    some_row = some;
    over_live = keep-over live q b v sound.over_live;
    once = λ p. le_trans (count-without live q p) (sound.once p);
    labels = left_labels live label sound.labels q inside;
    groups = λ x i. subst (λ g. IsSmall limit (keep q b v) g) (sym (members-left live label sound.labels q inside x i)) (kept_small q b some x (was_listed live q x i));
  }

  pub groups_left : (q : ℕ) (b value : Bool) → is_listed live q ≡ true → ¬ ((x : ℕ) → keep q b v x ≡ zero_coefficient) → AreGroups limit (cond value (raised q (keep q b v)) (keep q b v)) live (alone live label q)
  groups_left q b value inside some = record {
    some_row = row value;
    over_live = over value;
    once = sound.once;
    labels = alone_labels live label sound.labels q inside;
    groups = λ x i. by x i (x == q) refl;
  }
    where
      kept_over : IsOver live (keep q b v)
      kept_over = over_more (without live q) live (keep q b v) (λ x out. is_listed-without live q x ∙ ap (λ c. c && not (x == q)) out) (keep-over live q b v sound.over_live)

      row : (t : Bool) → ¬ ((x : ℕ) → cond t (raised q (keep q b v)) (keep q b v) x ≡ zero_coefficient)
      row true = raised-some_row q b v some
      row false = some

      over : (t : Bool) → IsOver live (cond t (raised q (keep q b v)) (keep q b v))
      over true = raised-over live q (keep q b v) inside kept_over
      over false = kept_over

      certain : (t : Bool) → ¬ HasSizeAtLeast (cond t (raised q (keep q b v)) (keep q b v)) (q ∷ []) (2 ^ 60)
      certain true = certain_small q true (raised q (keep q b v)) (λ x e. raised_set q (keep q b v) x e)
      certain false = certain_small q false (keep q b v) (λ x e. keep_clear q b v x e)

      longer : (n m : ℕ) → 1 ≤ n → n ≤ m → 1 ≤ m
      longer n m h k = omega arith

      nonempty : 1 ≤ length (members live label (label q))
      nonempty = longer _ _ (count_listed _ q (member q inside)) (count_by-le-length (λ p. p == q) _)

      self : IsSmall limit (cond value (raised q (keep q b v)) (keep q b v)) (q ∷ [])
      self = record { few = longer _ _ nonempty (sound.groups q inside).few; size = certain value }

      other : (x : ℕ) → is_listed live x ≡ true → (t : Bool) → IsSmall limit (cond t (raised q (keep q b v)) (keep q b v)) (without (members live label (label x)) q)
      other x i true = let was = kept_small q b some x i in record {
        few = was.few;
        size = λ large. was.size (size_elsewhere (raised q) _ (raised-IsHomogeneous q) (raised-IsElsewhere _ q (not_in (members live label (label x)) q)) (keep q b v) (2 ^ 60) large);
      }
      other x i false = kept_small q b some x i

      by : (x : ℕ) → is_listed live x ≡ true → (t : Bool) → (x == q) ≡ t → IsSmall limit (cond value (raised q (keep q b v)) (keep q b v)) (members live (alone live label q) (alone live label q x))
      by x i true e = subst (λ n. IsSmall limit (cond value (raised q (keep q b v)) (keep q b v)) (members live (alone live label q) (alone live label q n))) (sym (eq_of x q e))
          (subst (λ g. IsSmall limit (cond value (raised q (keep q b v)) (keep q b v)) g) (sym (members-alone_self live label sound.labels q inside (sound.once q))) self)
      by x i false e = subst (λ g. IsSmall limit (cond value (raised q (keep q b v)) (keep q b v)) g) (sym (members-alone_other live label sound.labels q inside x i (ne_of x q e))) (other x i value)

  -- ---- new numbers
  pub groups_added : (w : Vector) (label' : ℕ → ℕ) (ns : List ℕ) (l : ℕ)
      → ((x : ℕ) → is_listed live x ≡ true → label' x ≡ label x) → ((x : ℕ) → is_listed ns x ≡ true → label' x ≡ l)
      → ((x : ℕ) → is_listed ns x ≡ true → is_listed live x ≡ false) → is_listed ns l ≡ true → ((x : ℕ) → is_listed ns x ≡ true → l ≤ x)
      → ¬ ((x : ℕ) → w x ≡ zero_coefficient) → IsOver (live ++ ns) w → ((q : ℕ) → count_by (λ p. p == q) (live ++ ns) ≤ 1) → IsSmall limit w ns
      → ((g : List ℕ) → ((r : ℕ) → is_listed g r ≡ true → is_listed live r ≡ true) → HasSizeAtLeast w g (2 ^ 60) → HasSizeAtLeast v g (2 ^ 60))
      → AreGroups limit w (live ++ ns) label'
  groups_added w label' ns l kept given new chosen low some over once small sizes = record {
    some_row = some;
    over_live = over;
    once = once;
    labels = added_labels live label label' sound.labels ns l kept given new chosen low;
    groups = λ x i. by x i (is_listed live x) refl;
  }
    where
      in_live : (x r : ℕ) → is_listed (members live label (label x)) r ≡ true → is_listed live r ≡ true
      in_live x r h = (both_true (is_listed live r) (label r == label x) (sym (is_listed-members live label (label x) r) ∙ h)).0

      by : (x : ℕ) → is_listed (live ++ ns) x ≡ true → (t : Bool) → is_listed live x ≡ t → IsSmall limit w (members (live ++ ns) label' (label' x))
      by x i true e = subst (λ g. IsSmall limit w g) (sym (members-added_other live label label' sound.labels ns l kept given new chosen low x e))
          (let was = sound.groups x e in record { few = was.few; size = λ large. was.size (sizes _ (in_live x) large) })
      by x i false e = subst (λ g. IsSmall limit w g) (sym (members-added_self live label label' sound.labels ns l kept given new chosen low x (was_or_new live label label' sound.labels ns l kept given new chosen low x i e))) small
