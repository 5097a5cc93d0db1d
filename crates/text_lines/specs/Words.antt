-- The words of a line, and what words spell.
use Rattle.std.specs.Prelude.{ℕ, ◌==◌, ◌&&◌, ◌^◌, nat_le, nat_lt, length, Bool, if◌then◌else◌, List, [], ◌∷◌, Option, Some, None, option_and_then}
use Rattle.std.specs.List.{slice_split, list_all}
use Rattle.std.specs.Char.{is_ascii_digit}
use Rattle.std.specs.Str.{bytes_eq}
use Rattle.std.specs.Str.Parse.{digits_value}
use Rattle.std.specs.Fmt.{decimal}
use Rattle.std.specs.Int.{w32, from_be_bytes}
use Rattle.std.specs.Result.{result_ok}
use Rattle.hex.specs.Hex.{decode_of}

-- a space, which divides words
abbrev pub is_space : ℕ → Bool
is_space c = c == 32

-- a point, which divides the numbers of an address
abbrev pub is_point : ℕ → Bool
is_point c = c == 46

-- the words of a line: what stands between its spaces
abbrev pub words : List ℕ → List (List ℕ)
words line = slice_split is_space line

-- one decimal digit or more, which write a number below 2 ^ 64
abbrev pub is_number : List ℕ → Bool
is_number word = nat_lt 0 (length word) && (list_all is_ascii_digit word && nat_lt (digits_value 10 word) (2 ^ 64))

infixl 10 ◌>>=◌
-- reading goes on with what was found
abbrev pub ◌>>=◌ : {A B : Type 0} → Option A → (A → Option B) → Option B
o >>= f = option_and_then f o

-- The number that is printed as this word, where it is at most `most`: decimal digits alone, and no leading zeros.
abbrev pub number_up_to : ℕ → List ℕ → Option ℕ
number_up_to most word =
    let n = digits_value 10 word in
    if nat_le n most && bytes_eq (decimal n) word then Some n else None

-- the number from `least` to `most` that a word spells
abbrev pub number_between : ℕ → ℕ → List ℕ → Option ℕ
number_between least most word = do
  n ← number_up_to most word
  if nat_le least n then Some n else None

-- the bytes of hexadecimal digits, two digits of either case a byte, and at least one byte
abbrev pub hex_bytes : List ℕ → Option (List ℕ)
hex_bytes [] = None
hex_bytes word = result_ok (decode_of word)

-- the address of four numbers up to 255
abbrev pub address_of_numbers : List (List ℕ) → Option ℕ
address_of_numbers (first ∷ second ∷ third ∷ fourth ∷ []) = do
  a ← number_up_to 255 first
  b ← number_up_to 255 second
  c ← number_up_to 255 third
  d ← number_up_to 255 fourth
  Some (from_be_bytes w32 (a ∷ b ∷ c ∷ d ∷ []))
address_of_numbers _ = None

-- the IPv4 address that a word spells: four numbers up to 255 with points between them
abbrev pub address_of : List ℕ → Option ℕ
address_of word = address_of_numbers (slice_split is_point word)
