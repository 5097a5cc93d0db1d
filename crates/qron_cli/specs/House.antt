-- What a house tells: its keys and files, what it may be asked for, and how often it failed.
use Rattle.std.specs.Prelude.{◌≡◌, ℕ, ◌<◌, ◌≤◌, List, [], ◌∷◌, ◌++◌, length, drop, Option, None, Some, option_map, IfSome, IsSome, IsSomeAnd, Result, Ok, Err}
use Rattle.network_model.specs.declared.Place.{Place}
use Rattle.qron_link.specs.Outside.{Rose}
use Rattle.node_table.specs.declared.settings.Settings.{Settings}
use Rattle.node_table.specs.declared.settings.SettingsFault.{SettingsFault}
use Rattle.node_table.specs.Document.{settings_of}
use Rattle.word_lines.specs.Lines.{Line, pipe, pipe_with, replay, serve, talk, drill}
use Rattle.qron_cli.specs.declared.house.FileRead.{FileRead}
use Rattle.qron_cli.specs.declared.house.FileRead.TheVariants.{Bytes, TooLong, Failed, OutOfMemory}

-- what a house is asked for: the bytes of a file, the posts of a network with these settings, or a link to a place
pub data Ask : Type 0 where
  ask_file : List ℕ → Ask
  ask_posts : Settings → Ask
  ask_link : Place → Ask

-- the key of the dice for each seed, the bytes of the file of each name and the asks that are still allowed, where
-- those are told, and how often the house failed
pub record Facts : Type 0 where
  pub keys : List ℕ → List ℕ
  pub files : Option (List ℕ → Option (List ℕ))
  pub asks : Option (List Ask)
  pub faults : ℕ

-- the asks that are allowed begin with these, where they are told
abbrev pub Allows : List Ask → Facts → Type 0
Allows asks facts = IfSome facts.asks (λ allowed. (others : List Ask) × (allowed ≡ asks ++ others))

-- a house that tells the asks that it allows tells its files too
abbrev pub TellsFiles : Facts → Type 0
TellsFiles facts = IfSome facts.asks (λ _. IsSome facts.files)

-- the posts of the settings that a text says, if it says some
abbrev pub asks_by : Result Settings SettingsFault → List Ask
asks_by (Ok s) = ask_posts s ∷ []
asks_by (Err why) = []

abbrev pub asks_in : Option (List ℕ) → List Ask
asks_in (Some text) = asks_by (settings_of text)
asks_in None = []

-- the posts of the settings that the file of a name says, if it says some, where files are told
abbrev pub asks_behind : Option (List ℕ → Option (List ℕ)) → List ℕ → List Ask
asks_behind (Some file) name = asks_in (file name)
asks_behind None name = []

-- what the words of a line ask for, in order
abbrev pub asks_of : Facts → Line → List Ask
asks_of facts pipe = []
asks_of facts (pipe_with settings) = ask_file settings ∷ []
asks_of facts (replay settings schedule) = ask_file settings ∷ ask_file schedule ∷ []
asks_of facts (serve settings) = ask_file settings ∷ asks_behind facts.files settings
asks_of facts (talk place script) = ask_file script ∷ ask_link place ∷ []
asks_of facts (drill rounds) = []

-- one ask was made: it is allowed no more, and all else stays but the count of faults, which did not fall
pub record WasAsked (old new : Facts) : Type 0 where
  pub keys : new.keys ≡ old.keys
  pub files : new.files ≡ old.files
  pub asks : new.asks ≡ option_map (λ asks. drop 1 asks) old.asks
  pub faults : old.faults ≤ new.faults

-- the most bytes of a file
abbrev pub file_limit : ℕ
file_limit = 16_777_216

-- these are the bytes of the file of a name, where files are told
abbrev pub IsFile : Facts → List ℕ → List ℕ → Type 0
IsFile facts name bytes = IfSome facts.files (λ file. file name ≡ Some bytes)

-- the file of a name has more bytes than that, where files are told
abbrev pub IsTooLong : Facts → List ℕ → Type 0
IsTooLong facts name = IfSome facts.files (λ file. IsSomeAnd (file name) (λ bytes. file_limit < length bytes))

-- what came of asking for a file: its bytes, or that they are too many; it failed only where the count of faults rose
abbrev pub FileGave : FileRead → List ℕ → Facts → Facts → Type 0
FileGave (Bytes bytes) name old new = IsFile old name bytes.items × (length bytes.items ≤ file_limit)
FileGave TooLong name old new = IsTooLong old name
FileGave Failed name old new = Rose old.faults new.faults
FileGave OutOfMemory name old new = Unit {0}

-- what came of asking for a link: the links handed out so far, with it behind them, where they are told; there is none
-- only where the count of faults rose
abbrev pub LinkGave : {L : Type 0} → Option L → Facts → Facts → Option (List L) → Option (List L) → Type 0
LinkGave None old new before after = Rose old.faults new.faults × (after ≡ before)
LinkGave (Some link) old new before after = after ≡ option_map (λ links. links ++ (link ∷ [])) before
