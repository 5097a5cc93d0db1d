-- How many numbers are live, by the loads of nodes.
--     fewer_live     where a node has room
--     two_fewer      where two nodes have
use Rattle.std.proofs.Common.{◌≡◌, ◌≢◌, ℕ, ◌+◌, ◌*◌, ◌<◌, ◌≤◌, ◌==◌, Bool, true, false, cond, length, count_by, refl, sym, ap, subst, ◌∙◌, arith}
use Rattle.network_model.specs.Network.{Network, Shape, Held, Waiting, load, IsSound}
use Rattle.state_model.proofs.Booleans.{eq_of}
use Rattle.network_model.proofs.Counting.{total, total_sum, total_below, total_one, length_total}
use Rattle.network_model.proofs.Places.{length_live}
use Rattle.network_model.proofs.SoundParts.{sound_places}

-- a sum in which one number has room, or two have
one_less : (n m k : ℕ) (f : ℕ → ℕ) → ((i : ℕ) → f i ≤ m) → k < n → f k < m → total n f + 1 ≤ n * m
one_less n m k f each inside less =
    subst (λ t. t ≤ n * m) (total_sum n f (λ i. cond (k == i) 1 0) ∙ ap (λ t. total n f + t) (total_one n k inside))
    (total_below n m (λ i. f i + cond (k == i) 1 0) (λ i. by i (k == i) refl))
  where
    by : (i : ℕ) (t : Bool) → (k == i) ≡ t → f i + cond (k == i) 1 0 ≤ m
    by i true e = subst (λ b. f i + cond b 1 0 ≤ m) (sym e) (one (f i) (subst (λ n. f n < m) (eq_of k i e) less))
      where
        one : (a : ℕ) → a < m → a + 1 ≤ m
        one a h = omega arith
    by i false e = subst (λ b. f i + cond b 1 0 ≤ m) (sym e) (none (f i) (each i))
      where
        none : (a : ℕ) → a ≤ m → a + 0 ≤ m
        none a h = omega arith

two_less : (n m k l : ℕ) (f : ℕ → ℕ) → ((i : ℕ) → f i ≤ m) → k < n → l < n → k ≢ l → f k < m → f l < m → total n f + 1 + 1 ≤ n * m
two_less n m k l f each in_k in_l apart less_k less_l =
    subst (λ t. t + 1 ≤ n * m) (total_sum n f (λ i. cond (k == i) 1 0) ∙ ap (λ t. total n f + t) (total_one n k in_k))
    (one_less n m l (λ i. f i + cond (k == i) 1 0) (λ i. by i (k == i) refl) in_l (at_l (k == l) refl))
  where
    one : (a : ℕ) → a < m → a + 1 ≤ m
    one a h = omega arith

    none : (a : ℕ) → a ≤ m → a + 0 ≤ m
    none a h = omega arith

    none_below : (a : ℕ) → a < m → a + 0 < m
    none_below a h = omega arith

    by : (i : ℕ) (t : Bool) → (k == i) ≡ t → f i + cond (k == i) 1 0 ≤ m
    by i true e = subst (λ b. f i + cond b 1 0 ≤ m) (sym e) (one (f i) (subst (λ n. f n < m) (eq_of k i e) less_k))
    by i false e = subst (λ b. f i + cond b 1 0 ≤ m) (sym e) (none (f i) (each i))

    at_l : (t : Bool) → (k == l) ≡ t → f l + cond (k == l) 1 0 < m
    at_l true e = absurd (apart (eq_of k l e))
    at_l false e = subst (λ b. f l + cond b 1 0 < m) (sym e) (none_below (f l) less_l)

module _ (shape : Shape) (s : Network) (sound : IsSound shape s) where
  -- each live number is held or waits at some node
  live_total : length s.live ≡ total (length shape.places) (load s)
  unfolding load
  live_total =
      let n = length shape.places in
      length_live shape s.live s.held s.waiting (sound_places shape s sound) (n * shape.room) sound.live_numbers sound.live_once
      ∙ ap (λ m. m + length s.waiting) (length_total (λ e. Held.node e) n s.held sound.held_nodes)
      ∙ ap (λ m. total n (λ i. count_by (λ e. Held.node e == i) s.held) + m) (length_total (λ e. Waiting.node e) n s.waiting sound.waiting_nodes)
      ∙ sym (total_sum n (λ i. count_by (λ e. Held.node e == i) s.held) (λ i. count_by (λ e. Waiting.node e == i) s.waiting))

  pub fewer_live : (node : ℕ) → node < length shape.places → load s node < shape.room → length s.live < length shape.places * shape.room
  fewer_live node inside less = along _ _ _ live_total (one_less (length shape.places) shape.room node (load s) sound.room inside less)
    where
      along : (l t n : ℕ) → l ≡ t → t + 1 ≤ n → l < n
      along l t n e h = omega arith

  pub two_fewer : (one two : ℕ) → one < length shape.places → two < length shape.places → one ≢ two → load s one < shape.room → load s two < shape.room
      → length s.live + 1 < length shape.places * shape.room
  two_fewer one two in_one in_two apart less_one less_two = along _ _ _ live_total (two_less (length shape.places) shape.room one two (load s) sound.room in_one in_two apart less_one less_two)
    where
      along : (l t n : ℕ) → l ≡ t → t + 1 + 1 ≤ n → l + 1 < n
      along l t n e h = omega arith
