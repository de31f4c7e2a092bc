use Rattle.std.proofs.Common.{sym}
use Rattle.trace_clock.proofs.LastWords.{word_none}
use Rattle.trace_clock.proofs.stamps.Stamps.new.Goals as goal

pub returns-clause-list : goal.returns-clause-list
returns-clause-list c = record { last = sym word_none }
