-- The settings where no text says any.
use Rattle.std.specs.Prelude.{ℕ, ◌+◌, map, replicate}
use Rattle.std.specs.List.{range_with_len}
use Rattle.network_model.specs.declared.Place.{Place}
use Rattle.virtual_node.specs.Settings.{settings}
use Rattle.node_table.specs.declared.settings.Settings.{Settings}
use Rattle.node_table.specs.Keys.{default_of, limit_row, room_row, journal_row, patience_row, wait_ms_row, workers_row, connections_row}

-- node k is at 127.0.0.1, with port 8821 + k
abbrev pub plain_place : ℕ → Place
plain_place node = record { address = 2_130_706_433; port = 8821 + node }

-- so many nodes, a seed of zeros, and for the rest what stands where a key is absent
abbrev pub plain_settings : ℕ → Settings
plain_settings nodes = record {
  shape = settings (map plain_place (range_with_len 0 nodes)) (default_of room_row) (default_of limit_row);
  seed = replicate 32 0;
  journal = default_of journal_row;
  patience = default_of patience_row;
  wait_ms = default_of wait_ms_row;
  workers = default_of workers_row;
  connections = default_of connections_row;
}
