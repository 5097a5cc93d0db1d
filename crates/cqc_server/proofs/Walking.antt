-- Lists that are walked from the front, while what they give is put behind others.
use Rattle.std.proofs.Common.{◌≡◌, ℕ, ◌+◌, ◌*◌, ◌≤◌, List, [], ◌∷◌, ◌++◌, length, map, sym, ap, ◌∙◌, arith, append_assoc, length-append}
use Rattle.std.specs.Prelude.{All, vec_capacity}
use Rattle.std.specs.List.{flat_map}
use Rattle.std.specs.declared.vec.Vec.{Vec}
use Rattle.std.proofs.lemmas.List.{append-nil, map-append, nil_from_length}
use Rattle.std.proofs.lemmas.List.Elements.{All-cons, All-nil, All-same}
use Rattle.cqc_server.specs.Leaving.{HasRoomFor}

module _ {A B : Type 0} where
  pub pushed : (f : A → B) (done next : List B) (rest left : List A) (x : A) (total : List B) → rest ≡ x ∷ left → next ≡ done ++ f x ∷ []
      → done ++ map f rest ≡ total → next ++ map f left ≡ total
  pushed f done next rest left x total step more all =
      ap (λ (bs : List B). bs ++ map f left) more ∙ append_assoc done (f x ∷ []) (map f left) ∙ ap (λ (xs : List A). done ++ map f xs) (sym step) ∙ all

  pub poured : (f : A → List B) (done next : List B) (rest left : List A) (x : A) (total : List B) → rest ≡ x ∷ left → next ≡ done ++ f x
      → done ++ flat_map f rest ≡ total → next ++ flat_map f left ≡ total
  poured f done next rest left x total step more all =
      ap (λ (bs : List B). bs ++ flat_map f left) more ∙ append_assoc done (f x) (flat_map f left) ∙ ap (λ (xs : List A). done ++ flat_map f xs) (sym step) ∙ all

  pub all_pushed : (f : A → B) (done : List B) (rest : List A) (total : List B) → length rest ≡ 0 → done ++ map f rest ≡ total → done ≡ total
  all_pushed f done rest total none all = sym (append-nil done) ∙ ap (λ (xs : List A). done ++ map f xs) (sym (nil_from_length rest none)) ∙ all

  pub all_poured : (f : A → List B) (done : List B) (rest : List A) (total : List B) → length rest ≡ 0 → done ++ flat_map f rest ≡ total → done ≡ total
  all_poured f done rest total none all = sym (append-nil done) ∙ ap (λ (xs : List A). done ++ flat_map f xs) (sym (nil_from_length rest none)) ∙ all

module _ {A : Type 0} where
  pub all_next : (P : A → Type 0) (rest left : List A) (x : A) (R : Type 0) → rest ≡ x ∷ left → P x → (All P rest → R) → All P left → R
  all_next P rest left x R step here whole behind = whole (All-same P rest (x ∷ left) step (All-cons P x left here behind))

  pub all_done : (P : A → Type 0) (rest : List A) (R : Type 0) → length rest ≡ 0 → (All P rest → R) → R
  all_done P rest R none whole = whole (All-same P rest [] (nil_from_length rest none) (All-nil P))

-- ---- room
pub room_left : {T Z : Type 0} (old new : Vec T Z) (more : List T) (n m : ℕ) → new.items ≡ old.items ++ more → vec_capacity old ≤ vec_capacity new → m + length more ≤ n
    → HasRoomFor n old → HasRoomFor m new
room_left old new more n m is kept less room = omega (arith, old.ok.0, new.ok.0, ap length is, length-append old.items more, kept, less, room)

pub one_less : {A : Type 0} (rest left : List A) (x : A) → rest ≡ x ∷ left → length rest ≡ length left + 1
one_less rest left x step = omega (arith, ap length step)

pub times_less : (n m k w : ℕ) → n ≡ m + 1 → w ≤ k → m * k + w ≤ n * k
times_less n m k w e few = omega (arith, ap (λ (i : ℕ). i * k) e, few)

-- ---- what is made of each element
pub grown : {A B : Type 0} (f : A → B) (done next : List A) (x : A) (rest left : List B) (y : B) (total : List B) → next ≡ done ++ x ∷ [] → f x ≡ y → rest ≡ y ∷ left
    → map f done ++ rest ≡ total → map f next ++ left ≡ total
grown f done next x rest left y total more is step all =
    ap (λ (xs : List _). map f xs ++ left) more
    ∙ ap (λ (bs : List _). bs ++ left) (map-append f done (x ∷ []))
    ∙ append_assoc (map f done) (f x ∷ []) left
    ∙ ap (λ b. map f done ++ b ∷ left) is
    ∙ ap (λ (bs : List _). map f done ++ bs) (sym step)
    ∙ all

pub all_grown : {A B : Type 0} (f : A → B) (done : List A) (rest total : List B) → length rest ≡ 0 → map f done ++ rest ≡ total → map f done ≡ total
all_grown f done rest total none all = sym (append-nil (map f done)) ∙ ap (λ (bs : List _). map f done ++ bs) (sym (nil_from_length rest none)) ∙ all
