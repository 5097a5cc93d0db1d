-- What is printed as a number is digits without leading zeros, and the other way round.
use Rattle.std.proofs.Common.{◌≡◌, ◌↔◌, ℕ, ◌^◌, ◌<◌, ◌≤◌, Bool, true, false, ◌&&◌, cond, List, length, get_or, Some, None, ap, sym, ◌∙◌, inl, inr, arith, rules, leb, nat_lt}
use Rattle.std.specs.List.{list_all}
use Rattle.std.specs.Char.{is_ascii_digit}
use Rattle.std.specs.Str.{bytes_eq}
use Rattle.std.specs.Str.Parse.{digits_value}
use Rattle.std.specs.Fmt.{decimal}
use Rattle.std.proofs.lemmas.Bool.{and_from, and_parts, and_left, both_ways, lt-leb, lt-ltb, le-leb, leb-true, ltb-true, cond-false, cond-true, false_from_ne_true, cases_eq, cases_lt, cases_Bool, iff_false}
use Rattle.std.proofs.lemmas.Str.Parse.{IsNumeralModel, numerals_by_value}
use Rattle.std.proofs.lemmas.Fmt.{decimal-digits_value, digits_decimal, digits_value-decimal, decimal_nonempty, decimal_digit, first_decimal}
use Rattle.std.proofs.lemmas.Slice.Eq.{bytes_eq-Decides}
use Rattle.text_lines.specs.Words.{is_number, number_up_to}

pub own : IsNumeralModel (λ ds. list_all is_ascii_digit ds ≡ true) (digits_value 10)
own = numerals_by_value _ (search rules)

abbrev pub value : List ℕ → ℕ
value word = digits_value 10 word

-- no zero stands in front of other digits
abbrev pub IsPlain : List ℕ → Type 0
IsPlain word = get_or word 0 0 ≡ 48 → length word ≡ 1

-- digits without leading zeros are printed as they stand
pub decimal-value : (word : List ℕ) → is_number word ≡ true → IsPlain word → bytes_eq (decimal (value word)) word ≡ true
decimal-value word number plain =
    let (some, more) = and_parts _ _ number in
    let (digits, small) = and_parts _ _ more in
    (bytes_eq-Decides _ _).1 (decimal-digits_value own word digits (ltb-true _ _ some) plain (ltb-true _ _ small))

-- what is printed as a number is digits without leading zeros
pub is_number-decimal : (n : ℕ) → n < 2 ^ 64 → (is_number (decimal n) ≡ true) × (value (decimal n) ≡ n) × IsPlain (decimal n)
is_number-decimal n small =
    let same = digits_value-decimal own n small in
    let some = lt-ltb _ _ (decimal_nonempty n small) in
    let fits : value (decimal n) < 2 ^ 64 = rw same small in (
      and_from _ _ some (and_from _ _ (digits_decimal own n small) (lt-ltb _ _ fits)),
      same,
      λ zero. elim (cases_eq n 0) [
        | inl none ↦ rw (none, decimal_digit 0 (omega arith))
        | inr more ↦ absurd (omega (arith, first_decimal n (omega arith) small))
      ],
    )

-- the test of a number
abbrev is_up_to : ℕ → List ℕ → Bool
is_up_to most word = leb (value word) most && bytes_eq (decimal (value word)) word

-- what passes it is digits without leading zeros
pub is_up_to-parts : (most : ℕ) (word : List ℕ) → most < 2 ^ 64 → is_up_to most word ≡ true → (is_number word ≡ true) × IsPlain word × (value word ≤ most)
is_up_to-parts most word small test =
    let (least, same) = and_parts _ _ test in
    let within : value word ≤ most = leb-true _ _ least in
    let printed : decimal (value word) ≡ word = (bytes_eq-Decides _ _).0 same in
    let (number, _, plain) = is_number-decimal (value word) (omega arith) in
    (rw (← printed) number, rw (← printed) plain, within)

-- a number in range is given, and nothing else
pub number_up_to-within : (most : ℕ) (word : List ℕ) → is_number word ≡ true → IsPlain word → value word ≤ most → Some (value word) ≡ number_up_to most word
number_up_to-within most word number plain within =
    sym (cond-true _ _ _ (and_from _ _ (le-leb _ _ within) (decimal-value word number plain)))

pub number_up_to-beyond : (most : ℕ) (word : List ℕ) → most < value word → None ≡ number_up_to most word
number_up_to-beyond most word beyond = sym (cond-false _ _ _ (and_left _ _ (lt-leb _ _ beyond)))

pub number_up_to-none : (most : ℕ) (word : List ℕ) → most < 2 ^ 64 → is_number word ≡ false → None ≡ number_up_to most word
number_up_to-none most word small none =
    sym (cond-false _ _ _ (false_from_ne_true _ (λ test. both_ways _ none (is_up_to-parts most word small test).0)))

pub number_up_to-zeros : (most : ℕ) (word : List ℕ) → most < 2 ^ 64 → get_or word 0 0 ≡ 48 → 1 < length word → None ≡ number_up_to most word
number_up_to-zeros most word small zero more =
    sym (cond-false _ _ _ (false_from_ne_true _ (λ test. let one = (is_up_to-parts most word small test).1 zero in absurd (omega arith))))

-- a number's own spelling is read back
pub number_up_to-decimal : (most n : ℕ) → n ≤ most → most < 2 ^ 64 → number_up_to most (decimal n) ≡ Some n
number_up_to-decimal most n within small =
    let (number, same, plain) = is_number-decimal n (omega arith) in
    sym (number_up_to-within most (decimal n) number plain (rw same within)) ∙ ap Some same

-- ---- what the calls on the way to a number answer
pub plain_unless_padded : (padded : Bool) (word : List ℕ) → ((padded ≡ true) ↔ ((1 < length word) × (get_or word 0 0 ≡ 48))) → padded ≡ false → is_number word ≡ true → IsPlain word
plain_unless_padded padded word tells fails number =
    let some : 0 < length word = ltb-true _ _ (and_parts (nat_lt 0 (length word)) _ number).0 in
    λ zero. elim (cases_lt 1 (length word)) [
      | inl more ↦ absurd (iff_false tells fails (more, zero))
      | inr one ↦ omega arith
    ]

pub no_digits : (word : List ℕ) → None ≡ cond (is_number word) (Some (value word)) None → is_number word ≡ false
no_digits word e = false_from_ne_true _ (λ passes. let some : None ≡ Some (value word) = e ∙ cond-true _ _ _ passes in cc)

pub some_digits : (word : List ℕ) (n : ℕ) → Some n ≡ cond (is_number word) (Some (value word)) None → (is_number word ≡ true) × (n ≡ value word)
some_digits word n e =
    elim (cases_Bool (is_number word)) [
      | inl passes ↦ let same : Some n ≡ Some (value word) = e ∙ cond-true _ _ _ passes in (passes, cc)
      | inr fails ↦ let none : Some n ≡ None = e ∙ cond-false _ _ _ fails in (cc, cc)
    ]

-- a word that a number is read from is what that number is printed as
pub number_up_to-Some : (most : ℕ) (word : List ℕ) (n : ℕ) → number_up_to most word ≡ Some n → (word ≡ decimal n) × (n ≤ most)
number_up_to-Some most word n e =
    elim (cases_Bool (is_up_to most word)) [
      | inl passes ↦
          let same : Some (value word) ≡ Some n = sym (cond-true _ _ _ passes) ∙ e in
          let is : value word ≡ n = cc in
          let (least, printed) = and_parts (leb (value word) most) (bytes_eq (decimal (value word)) word) passes in
          (sym ((bytes_eq-Decides _ _).0 printed) ∙ ap decimal is, omega (arith, leb-true (value word) most least))
      | inr fails ↦ let none : None ≡ Some n = sym (cond-false _ _ _ fails) ∙ e in (cc, cc)
    ]
