use Rattle.std.proofs.Common.{get_or, List, Some, subst, sym}
use Rattle.capture_actions.specs.Names.{ItmPacket}
use Rattle.capture_actions.specs.Clocks.{Stands}
use Rattle.capture_actions.proofs.Sources.{other_stays}
use Rattle.capture_actions.proofs.source_clocks.SourceClocks.pass.Goals as goal

pub returns : goal.returns
returns c = λ es event other h x d l.
    subst (λ (packets : List ItmPacket). Stands (get_or c.args.self.now.clocks x d) packets) (sym (other_stays (Some x) es event other))
    (h x d l)
