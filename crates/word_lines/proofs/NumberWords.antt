-- A number in its one spelling is one that clap's range parser takes.
use Rattle.std.proofs.Common.{◌≡◌, ◌≢◌, ℕ, ◌^◌, ◌<◌, ◌≤◌, true, false, pos, List, [], ◌∷◌, length, get_or, Option, Some, None, option_and_then, cond, leb, nat_lt, refl, ap, subst, sym, ◌∙◌, inl, inr, arith}
use Rattle.std.specs.List.{list_all}
use Rattle.std.specs.Char.{is_ascii_digit, digit_value}
use Rattle.std.specs.Str.Parse.{starts_with_minus, without_leading_plus}
use Rattle.std.proofs.lemmas.Bool.{and_from, and_parts, lt-ltb, le-leb, leb-true, cases_Bool, ne_eqb, false≢true}
use Rattle.std.proofs.lemmas.Str.{digit_value_digit}
use Rattle.std.proofs.lemmas.Str.Parse.{without_leading_plus_none}
use Rattle.clap.specs.ValueTests.{is_numeral, is_signed_in}
use Rattle.text_lines.specs.Words.{is_number, number_up_to, number_between}
use Rattle.text_lines.proofs.NumberLemmas.{value, is_number-decimal, number_up_to-Some}

small_digit : (c : ℕ) → is_ascii_digit c ≡ true → nat_lt (digit_value c) 10 ≡ true
small_digit c digit =
    let (least, most) = and_parts (leb 48 c) (leb c 57) digit in
    let same = digit_value_digit c (leb-true 48 c least, leb-true c 57 most) in
    lt-ltb (digit_value c) 10 (omega (arith, same, leb-true c 57 most))

small_digits : (word : List ℕ) → list_all is_ascii_digit word ≡ true → list_all (λ d. nat_lt (digit_value d) 10) word ≡ true
small_digits [] digits = refl
small_digits (c ∷ word) digits =
    let (first, others) = and_parts (is_ascii_digit c) (list_all is_ascii_digit word) digits in
    and_from _ _ (small_digit c first) (small_digits word others)

-- digits begin with no sign
no_minus : (word : List ℕ) → list_all is_ascii_digit word ≡ true → starts_with_minus word ≡ false
no_minus [] digits = refl
no_minus (c ∷ word) digits =
    ne_eqb c 45 (λ minus. false≢true (subst (λ x. is_ascii_digit x ≡ true) minus (and_parts (is_ascii_digit c) _ digits).0))

no_plus : (word : List ℕ) → list_all is_ascii_digit word ≡ true → get_or word 0 0 ≢ 43
no_plus [] digits plus = cc
no_plus (c ∷ word) digits plus = false≢true (subst (λ x. is_ascii_digit x ≡ true) plus (and_parts (is_ascii_digit c) _ digits).0)

in_range : (least most : ℕ) (word : List ℕ) → most < 2 ^ 63 → is_number word ≡ true → least ≤ value word → value word ≤ most → is_signed_in (pos least) (pos most) word ≡ true
in_range least most word small number above below =
    let (some, more) = and_parts (nat_lt 0 (length word)) _ number in
    let (digits, _) = and_parts (list_all is_ascii_digit word) _ more in
    let minus = no_minus word digits in
    let plus : without_leading_plus word ≡ word = without_leading_plus_none word (no_plus word digits) in
    let numeral : is_numeral word ≡ true = and_from _ _ some (small_digits word digits) in
    let fits = lt-ltb (value word) (2 ^ 63) (omega arith) in
    rw (minus, plus) (and_from _ _ numeral (and_from _ _ fits (and_from _ _ (le-leb least (value word) above) (le-leb (value word) most below))))

found_between : (least : ℕ) (o : Option ℕ) (n : ℕ) → option_and_then (λ m. cond (leb least m) (Some m) None) o ≡ Some n → (o ≡ Some n) × (least ≤ n)
found_between least None n e = cc
found_between least (Some m) n e =
    elim (cases_Bool (leb least m)) [
      | inl above ↦ let same : Some m ≡ Some n = rw above at e in let is : m ≡ n = cc in (same, subst (λ k. least ≤ k) is (leb-true least m above))
      | inr below ↦ let none : None ≡ Some n = rw below at e in (cc, cc)
    ]

-- clap takes the word of a number in its range
pub is_signed_in-number : (least most : ℕ) (word : List ℕ) (n : ℕ) → most < 2 ^ 63 → number_between least most word ≡ Some n → is_signed_in (pos least) (pos most) word ≡ true
is_signed_in-number least most word n small e =
    let (found, above) = found_between least (number_up_to most word) n e in
    let (printed, below) = number_up_to-Some most word n found in
    let (number, same, _) = is_number-decimal n (omega arith) in
    let passes : is_number word ≡ true = subst (λ w. is_number w ≡ true) (sym printed) number in
    let is : value word ≡ n = ap value printed ∙ same in
    in_range least most word small passes (omega (arith, is)) (omega (arith, is))

-- where clap doesn't, the word is no such number
pub number_between-none : (least most : ℕ) (word : List ℕ) → most < 2 ^ 63 → is_signed_in (pos least) (pos most) word ≡ false → number_between least most word ≡ None
number_between-none least most word small out = go (number_between least most word) refl
  where
    go : (r : Option ℕ) → number_between least most word ≡ r → r ≡ None
    go None e = refl
    go (Some n) e = absurd (false≢true (sym out ∙ is_signed_in-number least most word n small e))
