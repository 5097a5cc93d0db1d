use Rattle.std.proofs.Common.{◌+◌, ◌*◌, length}
use Rattle.std.specs.Prelude.{vec_len}
use Rattle.cqc_server.proofs.serving.serve.Given as goal

-- the table that was just made
abbrev pub ghosts-serve_over-N-Named : goal.ghosts-serve_over-N-Named
ghosts-serve_over-N-Named g a = record { table = a.blank }

abbrev pub ghosts-serve_over-N-Framed : goal.ghosts-serve_over-N-Framed
ghosts-serve_over-N-Framed g a = record {
  shape = a.settings.shape;
  capacity = a.settings.journal;
  cells = length a.settings.shape.places + 1 + length a.settings.shape.places * a.settings.shape.room;
  seats = vec_len a.posts;
}
