use Rattle.std.proofs.Common.{List, sym, ◌∙◌, subst, arith}
use Rattle.std.specs.List.{All}
use Rattle.port_formatter.specs.Names.{Turn, State}
use Rattle.trace_funnel.specs.declared.tagged.Tagged.{Tagged as Given}
use Rattle.trace_funnel.proofs.Naming.{IsNamed, IsOfSource, turn_named}
use Rattle.port_formatter.proofs.Passings.{passes_one, some_stays, few_stays, room_stays}
use Rattle.port_formatter.proofs.funnelled.FunnelledFrames.turn.Goals as goal

pub put_all-requires-clause-sources : goal.put_all-requires-clause-sources
put_all-requires-clause-sources c =
    let f = c.args.self.now.funnel in
    subst (λ (l : List Given). All IsOfSource l) (sym (c.as_slice.ensures.value ∙ c.turn.ensures.given))
    (turn_named f.hold f.places c.args.self.now.sources).0

pub invariant_of-self : goal.invariant_of-self
invariant_of-self c =
    let old = c.args.self.now in
    let f = old.funnel in
    let is = c.turn.ensures.places in
    let same = c.put_all.ensures.capacity in
    record {
      some = some_stays old c.turn.new.self c.put_all.new.self _ is same;
      sources = subst (λ (s : State). All IsNamed s.places) (sym is) (turn_named f.hold f.places old.sources).1;
      few = few_stays old c.turn.new.self c.put_all.new.self _ is same
          (let count = c.turn.ensures.count in omega (arith, count));
      room = room_stays old c.turn.new.self c.put_all.new.self _ is same;
    }

pub returns-clause-passes : goal.returns-clause-passes
returns-clause-passes c =
    passes_one c.args.self.now _ Turn c.as_slice.result.now (c.as_slice.ensures.value ∙ c.turn.ensures.given)
    c.turn.ensures.places c.put_all.ensures.put
