use Rattle.std.proofs.Common.{◌+◌, ◌*◌, arith}
use Rattle.std.proofs.lemmas.List.{get_or-replicate}
use Rattle.capture_actions.specs.KindCounts.{count_at}
use Rattle.capture_actions.specs.declared.item_word.TheConstants.{WORD_COUNT}
use Rattle.capture_actions.proofs.kind_counts.KindCounts.new.Goals as goal

pub returns : goal.returns
unfolding count_at
returns c = λ x k lx lk. get_or-replicate 3048 (WORD_COUNT * x + k) 0 0 (omega arith)
