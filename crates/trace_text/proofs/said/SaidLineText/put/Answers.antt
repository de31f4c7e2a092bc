use Rattle.std.proofs.Common.{List, ℕ, ◌++◌, take, ◌∙◌, ap}
use Rattle.stp_grammar.specs.Said.{said_item}
use Rattle.trace_text.proofs.Putting.{loose, then}
use Rattle.trace_text.proofs.SaidTexts.{line_by}
use Rattle.trace_text.proofs.said.SaidLineText.put.Goals as goal

pub returns-clause-text : goal.returns-clause-text
returns-clause-text c =
    let line = c.args.self.now in
    (then c.put-from.ensures (then c.put_half-from.ensures (then c.put_source-from.ensures
    (then c.put_said-from.ensures (loose c.put_byte.ensures))))).text
    ∙ ap (λ (l : List ℕ). take c.args.from c.args.room.now ++ l) (line_by line.at line.half line.id (said_item line.said) c.requires.fits.2)
