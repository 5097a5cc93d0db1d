use Rattle.history_front.proofs.tests.an_old_front_loads_what_was_appended.Given as goal

-- the table that was just made
abbrev pub ghosts-old_front : goal.ghosts-old_front
ghosts-old_front g a = record { table = a.blank }
