-- What the value at a key says.
use Rattle.std.specs.Prelude.{ℕ, ◌&&◌, not, nat_le, Bool, if◌then◌else◌, ℤ, pos, negsuc, List, [], ◌∷◌, map, filter, count_by, fold, min, Option, Some, None, Result, Ok, Err}
use Rattle.std.specs.Result.{result_ok}
use Rattle.std.specs.List.{list_any}
use Rattle.std.specs.Ordering.{nat_cmp, is_lt}
use Rattle.std.specs.Cmp.Lexicographic.{slice_cmp}
use Rattle.std.specs.Str.{bytes_eq}
use Rattle.toml.specs.Data.{Data, Members, no_members, member, get_member, as_str, as_integer}
use Rattle.hex.specs.Hex.{decode_sized}
use Rattle.text_lines.specs.Words.{address_of}
use Rattle.node_table.specs.declared.key.Key.{Key}
use Rattle.node_table.specs.declared.key.Key.TheVariants.{Seed, Address}
use Rattle.node_table.specs.declared.key.Whole.{Whole}
use Rattle.node_table.specs.declared.settings.SettingsFault.{SettingsFault}
use Rattle.node_table.specs.declared.settings.SettingsFault.TheVariants.{Strange, Missing, Kind, Spelling, Range}
use Rattle.node_table.specs.Keys.{name_of}
use Rattle.text_lines.specs.Reading.{◌>>=◌, ◌or◌}

-- ---- keys that no table has
-- the keys of a table
abbrev pub keys_in : Members → List (List ℕ)
keys_in no_members = []
keys_in (member key value others) = key ∷ keys_in others

-- a key is none of the known ones
abbrev pub is_strange : List Key → List ℕ → Bool
is_strange known key = not (list_any (λ k. bytes_eq (name_of k) key) known)

-- how many keys are less than this one, by bytes
abbrev pub lesser : List (List ℕ) → List ℕ → ℕ
lesser keys key = count_by (λ k. is_lt (slice_cmp nat_cmp k key)) keys

-- the least of some numbers
abbrev pub least : List ℕ → Option ℕ
least [] = None
least (n ∷ ns) = Some (fold min n ns)

-- the least strange key, by the number of lesser keys
abbrev pub least_strange : List Key → List (List ℕ) → Option ℕ
least_strange known keys = least (map (lesser keys) (filter (is_strange known) keys))

-- the refusal of a table's least strange key, if it has one
abbrev pub strange_from : ℕ → Option ℕ → Result (Unit {0}) SettingsFault
strange_from table None = Ok tt
strange_from table (Some before) = Err (Strange table before)

-- a table has no other keys than these
abbrev pub known_alone : List Key → ℕ → Members → Result (Unit {0}) SettingsFault
known_alone known table members = strange_from table (least_strange known (keys_in members))

-- ---- whole numbers
-- a number is in a row's range
abbrev pub is_within : Whole → ℕ → Bool
is_within row n = nat_le row.least n && nat_le n row.most

-- a whole number, in its range
abbrev pub number_from : Whole → ℕ → ℤ → Result ℕ SettingsFault
number_from row node (pos n) = if is_within row n then Ok n else Err (Range row.key node)
number_from row node (negsuc n) = Err (Range row.key node)

-- the number of a value, or that of the row where there's none
abbrev pub number_in : Whole → ℕ → Option Data → Result ℕ SettingsFault
number_in row node None = row.default or Missing row.key node
number_in row node (Some value) = do
  n ← as_integer value or Kind row.key node
  number_from row node n

-- the number at a row's key
abbrev pub number_at : Whole → ℕ → Members → Result ℕ SettingsFault
number_at row node table = number_in row node (get_member (name_of row.key) table)

-- ---- texts
-- the text at a key
abbrev pub text_at : Key → ℕ → Members → Result (List ℕ) SettingsFault
text_at key node table = do
  value ← get_member (name_of key) table or Missing key node
  as_str value or Kind key node

-- 32 bytes, as 64 hexadecimal digits in either case
abbrev pub seed_at : Members → Result (List ℕ) SettingsFault
seed_at top = do
  text ← text_at Seed 0 top
  result_ok (decode_sized text 32) or Spelling Seed 0

-- the address of a node
abbrev pub address_at : ℕ → Members → Result ℕ SettingsFault
address_at node table = do
  text ← text_at Address node table
  address_of text or Spelling Address node
