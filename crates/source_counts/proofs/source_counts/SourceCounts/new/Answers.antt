use Rattle.std.proofs.Common.{refl, arith}
use Rattle.std.proofs.lemmas.List.{get_or-replicate}
use Rattle.source_counts.proofs.source_counts.SourceCounts.new.Goals as goal

pub returns-clause-fresh : goal.returns-clause-fresh
returns-clause-fresh c = record {
  bytes = record { bytes = λ id l. get_or-replicate 127 id 0 0 (omega arith); unattributed = refl; frames = refl };
  items = λ id l. get_or-replicate 127 id 0 0 (omega arith);
}
