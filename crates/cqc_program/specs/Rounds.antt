-- The rounds of a body's command list, and how far they have come.
use Rattle.std.specs.Prelude.{◌≡◌, ◌≢◌, ℕ, ◌<◌, ◌≤◌, List, [], ◌++◌, length, drop, replicate, slice_index, nat_lt, Bool, true, false, ◌||◌, ◌&&◌, if◌then◌else◌, Option, None, Some, Result, Ok, Err, IsOk}
use Rattle.std.specs.List.{flat_map, list_any}
use Rattle.cqc_model.specs.declared.Command.{Command}
use Rattle.cqc_model.specs.declared.Instr.TheVariants.{Allocate}
use Rattle.cqc_model.specs.declared.BodyFault.{BodyFault}
use Rattle.cqc_model.specs.declared.BodyFault.TheVariants.{Short}
use Rattle.cqc_model.specs.Plan.{commands, unrolled, has_option, COMMAND, FACTORY}
use Rattle.cqc_program.specs.declared.round.Copies.{Copies}
use Rattle.cqc_program.specs.declared.round.Stand.{Stand}
use Rattle.cqc_program.specs.declared.walk.Front.{Front}

-- the type of a message
abbrev pub kind_of : Bool → ℕ
kind_of factory = if factory then FACTORY else COMMAND

-- the command list of a body, or its first fault
abbrev pub front_list : Bool → List ℕ → Result (List Command) BodyFault
front_list factory body =
    if factory then (if nat_lt (length body) 2 then Err (Short 0) else commands (drop 2 body)) else commands body

-- the commands of a list without a fault
abbrev pub listed : Result (List Command) BodyFault → List Command
listed (Ok cs) = cs
listed (Err f) = []

-- the commands from a place of a body on
unfoldable pub list_at : List ℕ → ℕ → List Command
list_at body at = listed (commands (drop at body))

-- what one round asks from a place on
abbrev pub round_at : List ℕ → ℕ → List Command
round_at body at = flat_map unrolled (list_at body at)

-- what so many rounds ask
abbrev pub rounds_at : ℕ → List ℕ → ℕ → List Command
rounds_at rounds body at = flat_map (λ c. c) (replicate rounds (round_at body at))

-- whether one of the commands asks for DONE
abbrev pub notifies : List Command → Bool
notifies list = list_any (λ c. c.notify) list

-- a command as often as it is asked
abbrev pub copies_list : Option Copies → List Command
copies_list None = []
copies_list (Some c) = replicate c.times c.command

-- whether a NOTIFY counts up to the end of the round
abbrev pub notices : List ℕ → Stand → Bool
notices body s = s.noticed || notifies (list_at body s.at)

-- what is asked is asked at least once, and is no ALLOCATE; nothing is asked at the end alone
abbrev pub AsksSome : ℕ → Stand → Option Copies → Type 0
AsksSome size s None = s.at ≡ size
AsksSome size s (Some c) = (0 < c.times) × (c.command.instr ≢ Allocate)

-- a round of a body has come that far
pub record IsAt (body : List ℕ) (s : Stand) : Type 0 where
  pub within : s.at ≤ length body
  pub sound : IsOk (commands (drop s.at body))
  pub asked : AsksSome (length body) s s.asked

-- the round went on to what is asked next
pub record GoesOn (body : List ℕ) (old new : Stand) : Type 0 where
  pub rounds : new.rounds ≡ old.rounds
  pub is : IsAt body new
  pub asks : round_at body old.at ≡ copies_list new.asked ++ round_at body new.at
  pub notify : notices body new ≡ notices body old

-- what stands in front of a command list, or a FACTORY is too short for it
abbrev pub FrontAs : Bool → List ℕ → Result Front BodyFault → Type 0
FrontAs false body (Ok f) = f ≡ record { start = 0; repeats = 1; notify = false }
FrontAs true body (Ok f) = (2 ≤ length body) × (f ≡ record { start = 2; repeats = slice_index body 0; notify = has_option 0 (slice_index body 1) })
FrontAs true body (Err fault) = (length body < 2) × (fault ≡ Short 0)
FrontAs false body (Err fault) = ⊥

-- the end of a body, with or without a NOTIFY
abbrev pub ended : ℕ → Bool → Stand
ended size noticed = record { rounds = 0; at = size; asked = None; noticed = noticed }

-- what is still asked from here on: nothing at the end
abbrev pub left_from : List ℕ → ℕ → Stand → Option Copies → List Command
left_from body start s None = []
left_from body start s (Some c) = copies_list (Some c) ++ round_at body s.at ++ rounds_at s.rounds body start

-- the first stand: all rounds are still asked
pub record BeginsAs (body : List ℕ) (f : Front) (s : Stand) : Type 0 where
  pub is : IsAt body s
  pub sound : IsOk (commands (drop f.start body))
  pub some : 0 < s.rounds → 0 < f.repeats
  pub asks : left_from body f.start s s.asked ≡ rounds_at f.repeats body f.start
  pub notify : notices body s ≡ f.notify || nat_lt 0 f.repeats && notifies (list_at body f.start)
