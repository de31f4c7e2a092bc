use Rattle.std.proofs.Common.{◌∙◌, ap}
use Rattle.std.specs.Prelude.{is_some}
use Rattle.trace_funnel.proofs.Placing.{has_place_is}
use Rattle.port_formatter.proofs.funnelled.FunnelledFrames.takes.Goals as goal

pub returns : goal.returns
returns c = c.is_some.ensures ∙ ap is_some c.place.ensures ∙ has_place_is c.args.id c.args.self.now.funnel.order
