use Rattle.std.proofs.Common.{List, sym, ◌∙◌, subst}
use Rattle.std.specs.List.{All}
use Rattle.port_formatter.specs.Names.{Offer, State, id_at}
use Rattle.trace_funnel.specs.declared.tagged.Tagged.{Tagged as Given}
use Rattle.trace_funnel.proofs.Naming.{IsNamed, IsOfSource, offer_named}
use Rattle.port_formatter.proofs.Passings.{passes_one, some_stays, room_stays}
use Rattle.port_formatter.proofs.funnelled.FunnelledFrames.put.Goals as goal

pub put_all-requires-clause-sources : goal.put_all-requires-clause-sources
put_all-requires-clause-sources c =
    let f = c.args.self.now.funnel in
    subst (λ (l : List Given). All IsOfSource l) (sym (c.as_slice.ensures.value ∙ c.offer.ensures.given))
    (offer_named f.hold f.depth f.places (id_at f c.args.place) c.args.byte c.args.self.now.sources).0

pub invariant_of-self : goal.invariant_of-self
invariant_of-self c =
    let old = c.args.self.now in
    let f = old.funnel in
    let is = c.offer.ensures.places in
    let same = c.put_all.ensures.capacity in
    record {
      some = some_stays old c.offer.new.self c.put_all.new.self _ is same;
      sources = subst (λ (s : State). All IsNamed s.places) (sym is)
          (offer_named f.hold f.depth f.places (id_at f c.args.place) c.args.byte old.sources).1;
      few = c.offer.ensures.few;
      room = room_stays old c.offer.new.self c.put_all.new.self _ is same;
    }

pub returns-clause-passes : goal.returns-clause-passes
returns-clause-passes c =
    let old = c.args.self.now in
    passes_one old _ (Offer (record { id = id_at old.funnel c.args.place; byte = c.args.byte })) c.as_slice.result.now
    (c.as_slice.ensures.value ∙ c.offer.ensures.given) c.offer.ensures.places c.put_all.ensures.put
