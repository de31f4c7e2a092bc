use Rattle.std.proofs.Common.{sym, ◌∙◌, true, false}
use Rattle.port_formatter.specs.Formatter.{turns_of}
use Rattle.script_rebuild.proofs.Placing.{placed_by}
use Rattle.script_rebuild.proofs.bytes.place_fits.Goals as goal

pub returns-then-takes : goal.returns-then-takes
returns-then-takes c = λ line same.
    placed_by (turns_of c.args.formatter.now) line true (same ∙ sym c.takes.ensures ∙ c.if-takes.true)

pub returns-else-takes : goal.returns-else-takes
returns-else-takes c = λ line same.
    placed_by (turns_of c.args.formatter.now) line false (same ∙ sym c.takes.ensures ∙ c.if-takes.false)
