use Rattle.std.proofs.Common.{rules}
use Rattle.trace_funnel.specs.Queues.{place_of}
use Rattle.trace_funnel.proofs.Putting.{put_first}
use Rattle.trace_funnel.proofs.queue.+put_in.Goals as goal

pub returns-then-eq-clause-places : goal.returns-then-eq-clause-places
returns-then-eq-clause-places t c =
    put_first c.args.id c.args.byte c.in-Some.queue.now c.in-Some.rest.now c.args.queues.now (place_of c.put.new.self)
    (search rules) (search rules) c.requires.one c.put.ensures.place
