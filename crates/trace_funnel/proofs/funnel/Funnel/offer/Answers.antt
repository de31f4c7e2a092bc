use Rattle.std.proofs.Common.{sym, ◌∙◌, ap}
use Rattle.trace_funnel.specs.Turns.{Turned}
use Rattle.trace_funnel.proofs.Offering.{offering_none, offering_more, turns_fall, offering_all, offering_put}
use Rattle.trace_funnel.proofs.Loading.{offer_load}
use Rattle.trace_funnel.proofs.funnel.Funnel.offer.Goals as goal

pub loop-self-init : goal.loop-self-init
loop-self-init c = offering_none c.args.self.now c.args.place c.args.out.now.items c.requires.empty

pub loop-self-smaller : goal.loop-self-smaller
loop-self-smaller c =
    turns_fall c.loop-self.self c.give.new.self c.args.place c.is_full.ensures.has
    (sym c.is_full.ensures.full ∙ c.loop-self-test.true) c.give.ensures.places

pub loop-self-preserved : goal.loop-self-preserved
loop-self-preserved c =
    offering_more c.args.self.now c.loop-self.self c.give.new.self c.args.place c.loop-self.out.items
    c.give.new.out.items c.loop-self.invariant c.is_full.ensures.has
    (sym c.is_full.ensures.full ∙ c.loop-self-test.true) c.give.ensures.places c.give.ensures.given c.give.ensures.len

pub returns-clause-given : goal.returns-clause-given
returns-clause-given c =
    ap (λ (t : Turned). t.out) (sym (offering_all c.args.self.now c.loop-self.self c.args.place c.loop-self.out.items
    c.loop-self.invariant (sym c.is_full.ensures.full ∙ c.loop-self-test.false)))

pub returns-clause-places : goal.returns-clause-places
returns-clause-places c =
    offering_put c.args.self.now c.loop-self.self c.put.new.self c.args.place c.args.byte c.loop-self.out.items
    c.loop-self.invariant (sym c.is_full.ensures.full ∙ c.loop-self-test.false) c.put.ensures.places

pub returns-clause-count : goal.returns-clause-count
returns-clause-count c =
    offer_load c.args.self.now c.loop-self.self c.put.new.self c.args.place c.args.byte c.loop-self.out.items
    c.loop-self.invariant c.is_full.ensures.has (sym c.is_full.ensures.full ∙ c.loop-self-test.false)
    c.put.ensures.places
