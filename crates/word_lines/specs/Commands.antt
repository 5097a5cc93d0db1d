-- The commands by which clap reads the words behind the first, and what it finds in them.
use Rattle.std.specs.Prelude.{◌≡◌, ◌≢◌, ℕ, Bool, true, false, pos, codes, List, [], Option, Some, None}
use Rattle.clap.specs.Walk.{Rule, Text, rows_of}
use Rattle.clap.specs.Simple.{App, Shape, new_rule, new_shape, with_rule, matches_of}
use Rattle.clap.specs.Matches.{found_of}
use Rattle.clap.specs.Faults.{fault_of}
use Rattle.clap.specs.declared.parser.matches.ArgMatches.{ArgMatches}
use Rattle.clap.specs.declared.builder.action.ArgAction.TheVariants.{Set}
use Rattle.clap.specs.declared.builder.value_parser.ValueParser.TheVariants as vp
use Rattle.word_lines.specs.declared.asked.Mode.{Mode}
use Rattle.word_lines.specs.declared.asked.Mode.TheVariants as mode

-- ---- arguments
-- a word that may be anything
abbrev pub text_rule : Bool → Text → Rule
text_rule required id = record (new_rule id) { required = required; action = Some Set }

-- a number from 1 to the most, in clap's spelling
abbrev pub number_rule : Text → ℕ → Rule
number_rule id most = record (text_rule true id) { parser = Some (vp.Signed (pos 1) (pos most)) }

-- ---- commands
-- a command without arguments, and without flags for help and version
abbrev pub bare_shape : Text → Shape
bare_shape name = record (new_shape name) { no_binary_name = true; disable_help_flag = true; disable_version_flag = true }

-- that command, which has no subcommands
abbrev pub bare_app : Text → App
bare_app name = record { top = bare_shape name; subs = [] }

-- pipe [settings]
abbrev pub pipe_app : App
pipe_app = with_rule (bare_app (codes "pipe")) (text_rule false (codes "settings"))

-- replay <settings> <schedule>
abbrev pub replay_app : App
replay_app = with_rule (with_rule (bare_app (codes "replay")) (text_rule true (codes "settings"))) (text_rule true (codes "schedule"))

-- serve <settings>
abbrev pub serve_app : App
serve_app = with_rule (bare_app (codes "serve")) (text_rule true (codes "settings"))

-- talk <address> <port> <script>
abbrev pub talk_app : App
talk_app =
    with_rule (with_rule (with_rule (bare_app (codes "talk")) (text_rule true (codes "address"))) (number_rule (codes "port") 65_535)) (text_rule true (codes "script"))

-- drill <rounds>
abbrev pub drill_app : App
drill_app = with_rule (bare_app (codes "drill")) (number_rule (codes "rounds") 100_000)

-- the command of a line, by its first word
abbrev pub app_for : Mode → App
app_for mode.Pipe = pipe_app
app_for mode.Replay = replay_app
app_for mode.Serve = serve_app
app_for mode.Talk = talk_app
app_for mode.Drill = drill_app

-- A command refuses the words, or has what it makes of them.
abbrev pub Finds : App → List Text → Option ArgMatches → Type 0
Finds app words None = fault_of app words ≢ []
Finds app words (Some matches) = (fault_of app words ≡ []) × (rows_of (found_of matches) ≡ matches_of app words)
