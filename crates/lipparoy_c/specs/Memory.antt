-- What memory shows of the streams of a run.
use Rattle.std.specs.Prelude.{◌≡◌, ◌==◌, ℕ, ◌<◌, List, [], length, take, Some, if◌then◌else◌}
use Rattle.capture_run.specs.Run.{Streams, streams}
use Rattle.lipparoy_c.specs.declared.ended.Ended.{Ended}

-- how many writes a room refused, as far as it tells: only one that is full to its last byte refuses any
abbrev pub refused : ℕ → List ℕ → ℕ
refused taken room = if taken == length room then 1 else 0

-- before a run, all of the input is left, and nothing is written or noted
abbrev pub before_run : List ℕ → Streams
before_run input = streams (Some input) (Some []) (Some []) 0

-- after it, these bytes of the input are left, and the rooms hold at their fronts what was written and noted
abbrev pub after_run : List ℕ → List ℕ → List ℕ → Ended → Streams
after_run left output notes ended =
    streams (Some left) (Some (take ended.output output)) (Some (take ended.notes notes)) (refused ended.notes notes)

-- the notes are this text, unless their room is full
abbrev pub NotesOnly : List ℕ → Ended → List ℕ → Type 0
NotesOnly notes ended text = ended.notes < length notes → take ended.notes notes ≡ text
