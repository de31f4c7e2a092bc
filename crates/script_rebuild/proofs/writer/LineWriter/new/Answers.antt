use Rattle.std.proofs.Common.{subst, sym}
use Rattle.port_formatter.specs.Formatter as formatters
use Rattle.script_rebuild.specs.Encoding.{IsRising}
use Rattle.script_rebuild.proofs.InOrder.{in_order_rising}
use Rattle.script_rebuild.proofs.EachEncoder.{all_named}
use Rattle.script_rebuild.proofs.Placing.{none_placed}
use Rattle.script_rebuild.proofs.writer.LineWriter.new.Goals as goal

pub invariant_of-result : goal.invariant_of-result
invariant_of-result c = record { named = all_named c.encoders_for.result.items c.args.stp.now c.encoders_for.ensures.ids }

pub returns-clause-fresh : goal.returns-clause-fresh
returns-clause-fresh c = λ port fresh. record {
  items = c.encoders_for.ensures.fresh;
  rising = subst IsRising (sym c.encoders_for.ensures.ids) (in_order_rising c.args.stp.now);
  places = none_placed (formatters.turns_of c.args.formatter);
  formatter = fresh;
}
