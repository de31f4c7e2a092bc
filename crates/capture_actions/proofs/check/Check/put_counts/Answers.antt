use Rattle.capture_actions.specs.Check.{plan_of}
use Rattle.capture_actions.specs.Names.{port_counts_of, source_counts_of, tails_of}
use Rattle.capture_actions.proofs.Counting.{all_counts}
use Rattle.capture_actions.proofs.check.Check.put_counts.Goals as goal

pub returns : goal.returns
returns c = λ u h.
    let p = plan_of c.args.self.now in
    all_counts (port_counts_of p u) (source_counts_of p u) (tails_of p u) c.args.outlet.now c.put_port.new.outlet
    c.put_sources.new.outlet c.print_tails.new.outlet c.finish.result (c.put_port.ensures.text u h)
    (c.put_sources.ensures.text u h) (c.finish.ensures u h) c.print_tails.ensures.lines
