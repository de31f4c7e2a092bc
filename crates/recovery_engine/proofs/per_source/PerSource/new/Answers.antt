use Rattle.std.proofs.Common.{arith}
use Rattle.std.proofs.lemmas.List.{get_or-replicate}
use Rattle.recovery_engine.proofs.per_source.PerSource.new.Goals as goal

pub returns-clause-none : goal.returns-clause-none
returns-clause-none c = λ id l. get_or-replicate 127 id 0 0 (omega arith)
