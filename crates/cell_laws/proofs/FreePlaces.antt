-- Free numbers and free slots below a bound.
--     free_number, free_slot    where fewer numbers are live than the bound
--     shared_slot               where two live numbers share a home
use Prim.Native.Nat.{suc}
use Rattle.std.proofs.Common.{◌≡◌, ◌≢◌, ℕ, ◌*◌, ◌<◌, ◌≤◌, ◌==◌, Bool, true, false, not, ◌&&◌, ◌||◌, List, [], ◌∷◌, map, length, count_by, All, refl, sym, ap, subst, ◌∙◌, arith}
use Rattle.std.proofs.lemmas.List.Elements.{All-nil, All-cons}
use Rattle.state_model.specs.Row.{is_listed, without}
use Rattle.state_model.specs.Amplitudes.{AreDistinct}
use Rattle.network_model.specs.Network.{Network, Shape, group_of, IsSound}
use Rattle.network_model.specs.Step.{least_free}
use Rattle.network_model.specs.Factored.{used_slots}
use Rattle.cell_laws.specs.Standing.{IsStanding}
use Rattle.state_model.proofs.Booleans.{eq_true, eq_false, eq_of, ne_of, clash, both_true}
use Rattle.state_model.proofs.Kept.{is_listed-map}
use Rattle.state_model.proofs.Numbers.{is_listed-without}
use Rattle.network_model.proofs.Added.{least_free_low, least_free_high}
use Rattle.network_model.proofs.Counting.{length_total, total_below}
use Rattle.network_model.proofs.Least.{least_free_new}
use Rattle.network_model.proofs.Slots.{is_listed-members}
use Rattle.cell_laws.proofs.Lengths.{first_listed, then_listed, length_without}
use Rattle.cell_laws.proofs.Members.{live_distinct, group_distinct}

length_map : (f : ℕ → ℕ) (xs : List ℕ) → length (map f xs) ≡ length xs
length_map f [] = refl
length_map f (x ∷ xs) = ap suc (length_map f xs)

-- ---- fewer live numbers than the bound
pub free_number : (live : List ℕ) (n : ℕ) → length live < n → least_free live < n
free_number live n h = below _ _ _ (least_free_high live) h
  where
    below : (a b n : ℕ) → a ≤ b → b < n → a < n
    below a b n h k = omega arith

pub free_slot : (live : List ℕ) (home : ℕ → ℕ) (n : ℕ) → length live < n → least_free (used_slots live home) < n
unfolding used_slots
free_slot live home n h = free_number (map home live) n (subst (λ m. m < n) (sym (length_map home live)) h)

-- ---- two live numbers with one home
-- distinct numbers below a bound are at most as many
all_listed : (xs : List ℕ) (n : ℕ) → ((q : ℕ) → is_listed xs q ≡ true → q < n) → All (λ q. q < n) xs
all_listed [] n h = All-nil (λ q. q < n)
all_listed (x ∷ xs) n h = All-cons (λ q. q < n) x xs (h x (first_listed x xs)) (all_listed xs n (λ q i. h q (then_listed x xs q i)))

pub few_live : (live : List ℕ) (n : ℕ) → ((q : ℕ) → count_by (λ p. p == q) live ≤ 1) → ((q : ℕ) → is_listed live q ≡ true → q < n) → length live ≤ n
few_live live n once low = bound _ _ _ (length_total (λ p. p) n live (all_listed live n low)) (total_below n 1 (λ i. count_by (λ p. p == i) live) once)
  where
    bound : (l t n : ℕ) → l ≡ t → t ≤ n * 1 → l ≤ n
    bound l t n e h = omega arith

-- a slot of a list's numbers is that of one of them
no_slot : (home : ℕ → ℕ) (xs : List ℕ) (t : ℕ) → ((x : ℕ) → is_listed xs x ≡ true → home x ≢ t) → is_listed (map home xs) t ≡ false
unfolding is_listed
no_slot home [] t none = refl
no_slot home (x ∷ xs) t none = ap (λ b. b || is_listed (map home xs) t) (eq_false (home x) t (none x (first_listed x xs))) ∙ no_slot home xs t (λ y i. none y (then_listed x xs y i))

pub shared_slot : (live : List ℕ) (home : ℕ → ℕ) (n a b : ℕ) → AreDistinct live → length live ≤ n → is_listed live a ≡ true → is_listed live b ≡ true → a ≢ b → home a ≡ home b → least_free (used_slots live home) < n
unfolding used_slots
shared_slot live home n a b apart few in_a in_b other same =
    below _ _ _ _ _ (least_free_low (map home live) m (no_slot home live m away)) (least_free_high (map home rest)) (length_map home rest) (length_without live a apart in_a) few
  where
    rest : List ℕ
    rest = without live a

    m : ℕ
    m = least_free (map home (without live a))

    below : (l k r d n : ℕ) → l ≤ k → k ≤ r → r ≡ d → {e : ℕ} → e ≡ suc d → e ≤ n → l < n
    below l k r d n p q f g h = omega arith

    in_rest : (x : ℕ) → is_listed live x ≡ true → x ≢ a → is_listed (without live a) x ≡ true
    in_rest x i e = is_listed-without live a x ∙ ap (λ c. c && not (x == a)) i ∙ ap not (eq_false x a e)

    out : (x : ℕ) → is_listed live x ≡ true → x ≢ a → home x ≢ m
    out x i e f = clash (sym (is_listed-map home (without live a) x (in_rest x i e)) ∙ ap (is_listed (map home (without live a))) f ∙ least_free_new (map home (without live a)))

    away : (x : ℕ) → is_listed live x ≡ true → home x ≢ m
    away x i = by (x == a) refl
      where
        by : (t : Bool) → (x == a) ≡ t → home x ≢ m
        by true e f = out b in_b (λ g. other (sym g)) (sym same ∙ ap home (sym (eq_of x a e)) ∙ f)
        by false e f = out x i (ne_of x a e) f

-- a group of more than one qubit leaves a slot free
pub shared_group_slot : (shape : Shape) (s : Network) (home : ℕ → ℕ) (q : ℕ) → IsStanding shape s home → is_listed s.live q ≡ true → length (group_of s q) ≢ 1
    → least_free (used_slots s.live home) < length shape.places * shape.room
unfolding group_of
shared_group_slot shape s home q standing live more = by (without (group_of s q) q) refl
  where
    sound : IsSound shape s
    sound = standing.sound

    own : is_listed (group_of s q) q ≡ true
    own = is_listed-members s.live s.label (s.label q) q ∙ ap (λ c. c && (s.label q == s.label q)) live ∙ eq_true _ _ refl

    count : length (group_of s q) ≡ suc (length (without (group_of s q) q))
    count = length_without (group_of s q) q (group_distinct shape s sound q) own

    by : (l : List ℕ) → without (group_of s q) q ≡ l → least_free (used_slots s.live home) < length shape.places * shape.room
    by [] e = absurd (more (count ∙ ap (λ l. suc (length l)) e))
    by (x ∷ l) e =
        let stays : is_listed (without (group_of s q) q) x ≡ true = ap (λ l. is_listed l x) e ∙ first_listed x l in
        let both = both_true (is_listed (group_of s q) x) (not (x == q)) (sym (is_listed-without (group_of s q) q x) ∙ stays) in
        let in_group = both_true (is_listed s.live x) (s.label x == s.label q) (sym (is_listed-members s.live s.label (s.label q) x) ∙ both.0) in
        shared_slot s.live home (length shape.places * shape.room) x q (live_distinct shape s sound) (few_live s.live (length shape.places * shape.room) sound.live_once sound.live_numbers)
        (in_group.0) live (λ f. clash (sym (both.1) ∙ ap not (eq_true x q f))) (eq_of _ _ (standing.housed x q (in_group.0) live ∙ in_group.1))
