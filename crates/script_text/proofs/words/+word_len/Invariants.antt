use Rattle.std.proofs.Common.{length}
use Rattle.script_text.proofs.words.+word_len.Given as goal

abbrev pub decreases-word_len : goal.decreases-word_len
decreases-word_len l = length l.line.now
