use Rattle.std.proofs.Common.{[], subst, sym}
use Rattle.std.proofs.lemmas.List.{get_or-replicate}
use Rattle.capture_actions.specs.Clocks.{Stands}
use Rattle.capture_actions.specs.declared.clocks.Clocks.{Clocks}
use Rattle.capture_actions.proofs.source_clocks.SourceClocks.new.Goals as goal

pub returns : goal.returns
returns c = λ x d l. subst (λ (k : Clocks). Stands k []) (sym (get_or-replicate 127 x c.new.result d l)) c.new.ensures.fresh
