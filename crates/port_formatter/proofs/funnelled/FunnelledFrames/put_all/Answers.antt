use Rattle.std.proofs.Common.{◌+◌, ℕ, List, length, refl, sym, ◌∙◌, ap, subst, arith}
use Rattle.std.specs.Prelude.{slice_index, is_some}
use Rattle.std.proofs.lemmas.List.{take_all}
use Rattle.port_formatter.specs.Names.{of_one, State, id_at}
use Rattle.trace_funnel.proofs.Placing.{has_place_is, place_at}
use Rattle.port_formatter.specs.Passed.{bytes_acts}
use Rattle.port_formatter.specs.Passing.{Passes}
use Rattle.port_formatter.proofs.FunnelledWays.{funnelled_puts}
use Rattle.port_formatter.proofs.Passings.{passes_none, passes_more, no_place}
use Rattle.port_formatter.proofs.funnelled.FunnelledFrames.put_all.Goals as goal

pub returns-in_default-clause-put : goal.returns-in_default-clause-put
returns-in_default-clause-put c =
    absurd (no_place c.place.result _ (ap is_some c.place.ensures
    ∙ has_place_is c.args.id c.args.self.now.funnel.order) c.requires.place c.in_default.is)

pub loop-byte-init : goal.loop-byte-init
loop-byte-init c = record {
  turns = refl;
  passes = passes_none c.args.self.now;
  moved = c.new-given.ensures;
  count = omega arith;
  room = λ more h. omega (arith, h);
}

pub put-requires-clause-place : goal.put-requires-clause-place
put-requires-clause-place c =
    let old = c.args.self.now.funnel in
    let at = place_at c.args.id old.order c.in-Some.place (sym c.place.ensures ∙ c.in-Some.is) in
    let same = ap (λ (s : State). length s.order) c.loop-byte.invariant.passes.funnel in
    let within = at.0 in
    omega (arith, within, same)

pub put-requires-clause-empty : goal.put-requires-clause-empty
put-requires-clause-empty c = c.loop-byte.invariant.moved

pub put-requires-clause-count : goal.put-requires-clause-count
put-requires-clause-count c =
    let few = c.requires.count in
    let so_far = c.loop-byte.invariant.count in
    let more = c.loop-byte-test.true in
    omega (arith, few, so_far, more)

pub put-requires-clause-room : goal.put-requires-clause-room
put-requires-clause-room c =
    let room = c.requires.room in
    let more = c.loop-byte-test.true in
    c.loop-byte.invariant.room 2 (omega (arith, room, more))

pub loop-byte-preserved : goal.loop-byte-preserved
loop-byte-preserved c =
    let old = c.args.self.now.funnel in
    let at = place_at c.args.id old.order c.in-Some.place (sym c.place.ensures ∙ c.in-Some.is) in
    let so_far = c.loop-byte.invariant in
    let same = ap (λ (s : State). slice_index s.order c.in-Some.place) so_far.passes.funnel in
    record {
      turns = c.put.ensures.turns ∙ so_far.turns;
      passes = passes_more c.args.self.now c.loop-byte.self c.put.new.self c.args.id c.args.bytes.now
          c.loop-byte.byte-index (id_at c.loop-byte.self.funnel c.in-Some.place) c.loop-byte-test.true (same ∙ at.1)
          so_far.passes c.put.ensures.passes;
      moved = c.put.ensures.moved;
      count = (let a = so_far.count in let b = c.put.ensures.count in omega (arith, a, b));
      room = λ more h. c.put.ensures.room more (so_far.room (2 + more) (omega (arith, h)));
    }

pub returns-clause-turns : goal.returns-clause-turns
returns-clause-turns c = c.loop-byte.invariant.turns

pub returns-clause-put : goal.returns-clause-put
returns-clause-put c =
    funnelled_puts c.args.self.now c.loop-byte.self (of_one c.args.id c.args.bytes.now)
    (subst (λ (l : List ℕ). Passes c.args.self.now c.loop-byte.self (bytes_acts (of_one c.args.id l)))
    (take_all c.loop-byte.byte-index c.args.bytes.now c.loop-byte-test.false) c.loop-byte.invariant.passes)

pub returns-clause-count : goal.returns-clause-count
returns-clause-count c =
    let so_far = c.loop-byte.invariant.count in
    let end = c.loop-byte.auto.byte-index-end in
    omega (arith, so_far, end)

pub returns-clause-room : goal.returns-clause-room
returns-clause-room c = λ more h.
    let end = c.loop-byte.auto.byte-index-end in
    c.loop-byte.invariant.room more (omega (arith, h, end))
