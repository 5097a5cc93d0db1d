use Rattle.commit_journal.proofs.Refused.{one_node}
use Rattle.commit_journal.proofs.tests.try_part.Given as goal

-- the table that was just made
abbrev pub ghosts-on_a_table-N-Named : goal.ghosts-on_a_table-N-Named
ghosts-on_a_table-N-Named g a = record { table = a.blank }

-- one cell, two seats, and room for two entries
abbrev pub ghosts-on_a_table-N-Framed : goal.ghosts-on_a_table-N-Framed
ghosts-on_a_table-N-Framed g a = record { shape = one_node; capacity = 2; cells = 1; seats = 2 }
