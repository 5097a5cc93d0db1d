-- What is printed of connections that took turns, and what came of them.
use Rattle.std.specs.Prelude.{ℕ, suc, List, [], ◌∷◌, ◌++◌, codes, Bool, true, false, if◌then◌else◌, Option, Some, None, Result, Ok, Err}
use Rattle.std.specs.List.{list_any}
use Rattle.std.specs.Fmt.{decimal}
use Rattle.hex.specs.Hex.{encode_lower}
use Rattle.session_model.specs.declared.Ending.{Ending}
use Rattle.session_model.specs.declared.Ending.TheVariants.{Clean, Cut, ReadFault, WriteFault, Full, Spent}
use Rattle.session_model.specs.Turns.{Finish}
use Rattle.qron_cli.specs.declared.complaint.Complaint.{Complaint}
use Rattle.qron_cli.specs.declared.complaint.Complaint.TheVariants.{Fault}
use Rattle.qron_cli.specs.declared.status.Work.{Work}
use Rattle.qron_cli.specs.declared.status.Work.TheVariants.{Done, Unfinished}

-- how an ending is printed
abbrev pub word_of : Ending → List ℕ
word_of Clean = codes "clean"
word_of (Cut have need) = codes "cut"
word_of ReadFault = codes "readfault"
word_of WriteFault = codes "writefault"
word_of (Full entries) = codes "full"
word_of (Spent bytes) = codes "spent"

-- bytes in hexadecimal, and `-` for none
abbrev pub hex_or_dash : List ℕ → List ℕ
hex_or_dash [] = codes "-"
hex_or_dash (b ∷ bytes) = encode_lower (b ∷ bytes)

-- the line of a connection that has ended: its number, its ending, and what was written
abbrev pub end_line : ℕ → Option Finish → List ℕ
end_line number None = []
end_line number (Some f) = decimal number ++ codes " " ++ word_of f.ending ++ codes " " ++ hex_or_dash f.written ++ codes "\n"

-- the lines of connections, of which the first has this number
abbrev pub end_lines : ℕ → List (Option Finish) → List ℕ
end_lines number [] = []
end_lines number (end ∷ ends) = end_line number end ++ end_lines (suc number) ends

-- its link failed
abbrev pub is_faulty : Option Ending → Bool
is_faulty None = false
is_faulty (Some Clean) = false
is_faulty (Some (Cut have need)) = false
is_faulty (Some ReadFault) = true
is_faulty (Some WriteFault) = true
is_faulty (Some (Full entries)) = false
is_faulty (Some (Spent bytes)) = false

-- its input was cut, its journal was full, or it read the most bytes
abbrev pub is_unfinished : Option Ending → Bool
is_unfinished None = false
is_unfinished (Some Clean) = false
is_unfinished (Some (Cut have need)) = true
is_unfinished (Some ReadFault) = false
is_unfinished (Some WriteFault) = false
is_unfinished (Some (Full entries)) = true
is_unfinished (Some (Spent bytes)) = true

-- what came of connections with these endings
abbrev pub outcome_of_all : List (Option Ending) → Result Work Complaint
outcome_of_all endings =
    if list_any is_faulty endings then Err Fault else (if list_any is_unfinished endings then Ok Unfinished else Ok Done)

-- the ending of a connection that has one
abbrev pub ending_in : Option Finish → Option Ending
ending_in None = None
ending_in (Some f) = Some f.ending
