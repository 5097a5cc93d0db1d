-- A full pool fits the opening.
use Rattle.std.proofs.Common.{◌≡◌, ℕ, ◌*◌, nat_lt, List, length, refl, sym, ap, ◌∙◌}
use Rattle.state_model.specs.Row.{is_listed}
use Rattle.state_model.proofs.Booleans.{and_true}
use Rattle.network_model.specs.Network.{Shape, opening}
use Rattle.network_model.specs.Factored.{FitsPool, used_slots}

pub full_fits : (shape : Shape) (count : ℕ) (numbers slots : List ℕ) → count ≡ length shape.places * shape.room
    → ((q : ℕ) → is_listed numbers q ≡ nat_lt q count) → ((t : ℕ) → is_listed slots t ≡ nat_lt t count)
    → FitsPool shape opening (λ q. 0) numbers slots 0
unfolding opening used_slots is_listed
full_fits shape count numbers slots is listed_numbers listed_slots = record {
  numbers_free = λ q. listed_numbers q ∙ ap (λ n. nat_lt q n) is ∙ sym (and_true (nat_lt q (length shape.places * shape.room)));
  slots_free = λ t. listed_slots t ∙ ap (λ n. nat_lt t n) is ∙ sym (and_true (nat_lt t (length shape.places * shape.room)));
  made = refl;
}
