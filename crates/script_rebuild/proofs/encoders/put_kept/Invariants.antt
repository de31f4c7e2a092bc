use Rattle.script_rebuild.proofs.EndsPut.{AreEnding}
use Rattle.script_rebuild.proofs.encoders.put_kept.Given as goal

-- those of the sources so far are flushed
abbrev pub invariant-loop-slot : goal.invariant-loop-slot
invariant-loop-slot l = AreEnding l.encoders.items l.later.items l.slot-index l.initial.formatter l.formatter
