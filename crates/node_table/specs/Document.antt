-- The settings that a document says, or its first refusal.
use Rattle.std.specs.Prelude.{ℕ, ◌+◌, ◌≤◌, ◌&&◌, nat_le, if◌then◌else◌, List, [], ◌∷◌, ◌++◌, length, position, Option, Some, None, unwrap_or, option_map, option_and_then, map, Result, Ok, Err}
use Rattle.std.specs.Str.{is_utf8}
use Rattle.toml.specs.Data.{Items, no_items, item, Members, no_members, get_member, as_array, as_table}
use Rattle.toml.specs.Parse.{parse_document}
use Rattle.toml.specs.View.{view}
use Rattle.toml.specs.declared.value.Value.{Value}
use Rattle.network_model.specs.declared.Place.{Place}
use Rattle.virtual_node.specs.Settings.{settings, is_place}
use Rattle.node_table.specs.declared.key.Key.TheVariants.{Node}
use Rattle.node_table.specs.declared.settings.Settings.{Settings}
use Rattle.node_table.specs.declared.settings.SettingsFault.{SettingsFault}
use Rattle.node_table.specs.declared.settings.SettingsFault.TheVariants.{NotToml, Missing, Kind, Range, Doubled}
use Rattle.node_table.specs.Keys.{name_of, top_keys, node_keys, limit_row, room_row, journal_row, patience_row, wait_ms_row, workers_row, connections_row, port_row}
use Rattle.text_lines.specs.Reading.{◌>>=◌, ◌or◌}
use Rattle.node_table.specs.Values.{known_alone, number_at, seed_at, address_at}

-- the tables of a list, where each of its elements is one
abbrev pub tables_in : Items → Option (List Members)
tables_in no_items = Some []
tables_in (item value others) = option_and_then (λ table. option_map (λ tables. table ∷ tables) (tables_in others)) (as_table value)

-- the tables of values, where each is one
abbrev pub tables_of : List Value → List Members
tables_of values = map (λ value. unwrap_or (as_table (view value)) no_members) values

-- 1 to 8 elements, each of which is a table
abbrev pub nodes_in : Items → Result (List Members) SettingsFault
nodes_in items = do
  tables ← tables_in items or Kind Node 0
  if nat_le 1 (length tables) && nat_le (length tables) 8 then Ok tables else Err (Range Node 0)

-- the tables of the nodes
unfoldable pub nodes_at : Members → Result (List Members) SettingsFault
nodes_at top = do
  value ← get_member (name_of Node) top or Missing Node 0
  items ← as_array value or Kind Node 0
  nodes_in items

-- the place of a node, which its table says
unfoldable pub place_in : ℕ → Members → Result Place SettingsFault
place_in node table = do
  known ← known_alone node_keys (node + 1) table
  address ← address_at node table
  port ← number_at port_row node table
  Ok (record { address = address; port = port })

-- the places of the nodes from this one on
abbrev pub places_from : ℕ → List Members → Result (List Place) SettingsFault
places_from node [] = Ok []
places_from node (table ∷ tables) = do
  place ← place_in node table
  others ← places_from (node + 1) tables
  Ok (place ∷ others)

-- the first place that this one equals, told with the number of this one
abbrev pub doubled_or : Option ℕ → ℕ → Result (Unit {0}) SettingsFault → Result (Unit {0}) SettingsFault
doubled_or (Some first) second others = Err (Doubled first second)
doubled_or None second others = others

-- No place equals one before it; the first that does is told, with the first that it equals.
abbrev pub apart_from : List Place → List Place → Result (Unit {0}) SettingsFault
apart_from before [] = Ok tt
apart_from before (place ∷ others) =
    doubled_or (position (is_place place.address place.port) before) (length before) (apart_from (before ++ place ∷ []) others)

-- the settings that the document's top table says
unfoldable pub settings_in : Members → Result Settings SettingsFault
settings_in top = do
  known ← known_alone top_keys 0 top
  seed ← seed_at top
  limit ← number_at limit_row 0 top
  room ← number_at room_row 0 top
  journal ← number_at journal_row 0 top
  patience ← number_at patience_row 0 top
  wait_ms ← number_at wait_ms_row 0 top
  workers ← number_at workers_row 0 top
  connections ← number_at connections_row 0 top
  nodes ← nodes_at top
  places ← places_from 0 nodes
  apart ← apart_from [] places
  Ok (record {
    shape = settings places room limit;
    seed = seed;
    journal = journal;
    patience = patience;
    wait_ms = wait_ms;
    workers = workers;
    connections = connections;
  })

-- the document that a text is: TOML, in UTF-8
abbrev pub document_of : List ℕ → Option Members
document_of text = if is_utf8 text then parse_document text else None

-- the settings that a text says, or its first refusal
abbrev pub settings_of : List ℕ → Result Settings SettingsFault
settings_of text = (document_of text or NotToml) >>= settings_in

-- Settings are in their ranges; those of a shape's room, limit and places are what every shape keeps.
pub record IsInRange (s : Settings) : Type 0 where
  pub some_journal : 1 ≤ s.journal
  pub most_journal : s.journal ≤ 1_048_576
  pub most_patience : s.patience ≤ 1_000_000
  pub most_wait : s.wait_ms ≤ 1_000
  pub some_workers : 1 ≤ s.workers
  pub most_workers : s.workers ≤ 8
  pub some_connections : 1 ≤ s.connections
  pub most_connections : s.connections ≤ 64
