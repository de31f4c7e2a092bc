use Rattle.std.proofs.Common.{ap, arith}
use Rattle.port_formatter.specs.Names.{State, load}
use Rattle.trace_funnel.proofs.Emptying.{less_load}
use Rattle.port_formatter.proofs.Passings.{drains_none, drains_more, is_busy}
use Rattle.port_formatter.proofs.funnelled.FunnelledFrames.drain.Goals as goal

pub loop-self-init : goal.loop-self-init
loop-self-init c = record {
  drains = drains_none c.args.self.now;
  count = omega arith;
  room = λ more h. h;
}

pub loop-self-smaller : goal.loop-self-smaller
loop-self-smaller c =
    let f = c.loop-self.self.funnel in
    let busy = is_busy (load f.places) c.is_empty.result c.is_empty.ensures c.loop-self-test.true in
    let less = less_load f.hold f.places c.loop-self.self.some busy in
    let is = ap (λ (s : State). load s.places) c.turn.ensures.passes.funnel in
    omega (arith, less, is)

pub loop-self-preserved : goal.loop-self-preserved
loop-self-preserved c =
    let f = c.loop-self.self.funnel in
    let busy = is_busy (load f.places) c.is_empty.result c.is_empty.ensures c.loop-self-test.true in
    let so_far = c.loop-self.invariant in
    record {
      drains = drains_more c.args.self.now c.loop-self.self c.turn.new.self so_far.drains busy c.turn.ensures.passes;
      count = (let a = so_far.count in let b = c.turn.ensures.count in omega (arith, a, b));
      room = λ more h. c.turn.ensures.room more (so_far.room more h);
    }
