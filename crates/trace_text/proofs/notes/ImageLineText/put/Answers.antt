use Rattle.std.proofs.Common.{List, ℕ, ◌++◌, ap, ◌∙◌, append_assoc, take}
use Rattle.std.specs.Prelude.{codes, decimal}
use Rattle.trace_text.proofs.Putting.{loose, then}
use Rattle.trace_text.proofs.notes.ImageLineText.put.Goals as goal

pub returns-clause-text : goal.returns-clause-text
returns-clause-text c =
    (then c.put_count-from.ensures (loose c.put_bytes.ensures)).text
    ∙ ap (λ (l : List ℕ). take c.args.from c.args.room.now ++ l)
    (append_assoc (codes "image isn't ") (decimal c.args.self.now.size) (codes " bytes\n"))
