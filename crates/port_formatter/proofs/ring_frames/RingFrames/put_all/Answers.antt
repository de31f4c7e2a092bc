use Rattle.std.proofs.Common.{refl, sym, ◌∙◌, subst, arith, ◌∷◌, []}
use Rattle.trace_funnel.specs.declared.tagged.Tagged.{Tagged as Given}
use Rattle.port_formatter.proofs.RingWays.{Keeps, nothing_given, keeps_none, keeps_more}
use Rattle.port_formatter.proofs.ring_frames.RingFrames.put_all.Goals as goal

pub returns-then-is_empty-clause-put : goal.returns-then-is_empty-clause-put
returns-then-is_empty-clause-put c =
    nothing_given c.args.self.now c.args.given.now (sym c.is_empty.ensures ∙ c.if-is_empty.true)

pub loop-x-init : goal.loop-x-init
loop-x-init c = record {
  put = keeps_none c.args.self.now;
  moved = c.new-sure.ensures;
  count = omega arith;
  filled = omega arith;
  capacity = refl;
}

pub loop-x-preserved : goal.loop-x-preserved
loop-x-preserved c =
    let kept = c.loop-x.invariant in
    let one = c.put.ensures in
    record {
      put = keeps_more c.args.self.now c.loop-x.self c.put.new.self c.args.given.now c.loop-x.x-index c.x-item.result
          c.loop-x-test.true kept.put
          (subst (λ (x : Given). Keeps c.loop-x.self c.put.new.self (x ∷ [])) c.x-item.is one.put);
      moved = one.moved;
      count = (let a = kept.count in let b = one.count in omega (arith, a, b));
      filled = (let a = kept.filled in let b = one.filled in omega (arith, a, b));
      capacity = one.capacity ∙ kept.capacity;
    }
