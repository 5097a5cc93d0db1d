-- What a line's command finds in the words is what the line asks for, and words that it refuses ask for nothing.
use Rattle.std.proofs.Common.{◌≡◌, ◌≢◌, false, List, [], Option, None, codes, refl}
use Rattle.std.specs.List.{list_any}
use Rattle.clap.specs.Faults.{fault_of}
use Rattle.clap.specs.Simple.{matches_of}
use Rattle.clap.specs.Walk.{Text, first_of}
use Rattle.word_lines.specs.declared.asked.Mode.{Mode}
use Rattle.word_lines.specs.declared.asked.Mode.TheVariants as mode
use Rattle.word_lines.specs.Lines.{is_dashed, line_for}
use Rattle.word_lines.specs.Commands.{app_for}
use Rattle.word_lines.specs.Views.{line_found}
use Rattle.word_lines.proofs.PipeLemmas.{pipe_taken, pipe_refused}
use Rattle.word_lines.proofs.ReplayLemmas.{replay_taken, replay_refused}
use Rattle.word_lines.proofs.ServeLemmas.{serve_taken, serve_refused}
use Rattle.word_lines.proofs.TalkLemmas.{talk_taken, talk_refused}
use Rattle.word_lines.proofs.DrillLemmas.{drill_taken, drill_refused}

-- the same words ask for the same
pub same_found : (m : Mode) (f g : Text → Option Text) → ((id : Text) → f id ≡ g id) → line_found m f ≡ line_found m g
same_found mode.Pipe f g same = rw (same (codes "settings")) refl
same_found mode.Replay f g same = rw (same (codes "settings"), same (codes "schedule")) refl
same_found mode.Serve f g same = rw (same (codes "settings")) refl
same_found mode.Talk f g same = rw (same (codes "address"), same (codes "port"), same (codes "script")) refl
same_found mode.Drill f g same = rw (same (codes "rounds")) refl

pub taken : (m : Mode) (words : List Text) → list_any is_dashed words ≡ false → fault_of (app_for m) words ≡ []
    → line_found m (λ id. first_of id (matches_of (app_for m) words)) ≡ line_for m words
taken mode.Pipe = pipe_taken
taken mode.Replay = replay_taken
taken mode.Serve = serve_taken
taken mode.Talk = talk_taken
taken mode.Drill = drill_taken

pub refused : (m : Mode) (words : List Text) → list_any is_dashed words ≡ false → fault_of (app_for m) words ≢ [] → None ≡ line_for m words
refused mode.Pipe = pipe_refused
refused mode.Replay = replay_refused
refused mode.Serve = serve_refused
refused mode.Talk = talk_refused
refused mode.Drill = drill_refused
