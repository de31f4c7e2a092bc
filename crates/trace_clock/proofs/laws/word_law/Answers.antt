use Rattle.trace_clock.proofs.LastWords.{word_none, word_more, word_nibble, word_lt}
use Rattle.trace_clock.proofs.laws.word_law.Goals as goal

pub returns : goal.returns
returns c = record { none = word_none; more = word_more; nibble = word_nibble; bound = word_lt }
