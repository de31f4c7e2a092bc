use Rattle.std.proofs.Common.{◌∙◌, rules}
use Rattle.frame_runs.proofs.Moves.{moved_are}
use Rattle.frame_runs.proofs.data.moved.Goals as goal

pub returns : goal.returns
returns c = λ bits few e.
    c.to_le_bytes.ensures ∙ moved_are c.args.bytes c.from_le_bytes-word.result c.args.late (search rules) c.from_le_bytes-word.ensures bits few e
