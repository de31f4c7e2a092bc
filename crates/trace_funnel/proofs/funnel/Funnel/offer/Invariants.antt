use Rattle.trace_funnel.proofs.Offering.{Offering, turns_left}
use Rattle.trace_funnel.proofs.funnel.Funnel.offer.Given as goal

abbrev pub invariant-loop-self : goal.invariant-loop-self
invariant-loop-self l = Offering l.initial.self l.self l.place l.out.items

abbrev pub decreases-loop-self : goal.decreases-loop-self
decreases-loop-self l = turns_left l.self l.place
