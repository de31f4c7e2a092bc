use Rattle.std.proofs.Common.{ap, ◌∙◌, sym, subst, refl, arith, rules}
use Rattle.trace_io.specs.Bytes.{TakesFront}
use Rattle.trace_io.proofs.Writes.{front_none}
use Rattle.trace_stream.specs.Debt.{with_debt}
use Rattle.trace_stream.proofs.Prefixes.{front_pending, prefix_pending}
use Rattle.trace_stream.proofs.feeding.pour_all.Goals as goal

pub loop-action-init : goal.loop-action-init
loop-action-init g c = record {
  same = refl;
  count = refl;
  live = λ live. live;
  stands = λ seen stands. stands;
  put = front_none (g.O.Sink.held c.args.output.now) (with_debt c.args.outlet.now (g.A.Action.debt c.args.action.now));
  later = omega arith;
}

pub returns-in_err-make_room-clause-err : goal.returns-in_err-make_room-clause-err
returns-in_err-make_room-clause-err g c =
    let put = prefix_pending _ _ _ _ _ _ c.loop-action.invariant.put c.in_err-make_room.ensures.err in
    search rules

pub returns-then-not-pour-clause-ok : goal.returns-then-not-pour-clause-ok
returns-then-not-pour-clause-ok g c =
    let old = g.O.Sink.held c.args.output.now in
    let now = g.O.Sink.held c.make_room.new.output in
    let owed = with_debt c.args.outlet.now (g.A.Action.debt c.args.action.now) in
    let poured = c.pour.ensures.poured in
    let none = ap (with_debt c.pour.new.outlet) (poured.none c.if-not-pour.true).0 in
    subst (TakesFront old now owed) (sym poured.put ∙ none)
    (front_pending _ _ _ _ _ _ _ c.loop-action.invariant.put c.in_ok-make_room.ensures.ok)

pub loop-action-preserved : goal.loop-action-preserved
loop-action-preserved g c =
    let was = c.loop-action.invariant in
    let now = c.pour.ensures in
    let old = g.O.Sink.held c.args.output.now in
    let held = g.O.Sink.held c.make_room.new.output in
    let owed = with_debt c.args.outlet.now (g.A.Action.debt c.args.action.now) in
    record {
      same = now.same ∙ was.same;
      count = now.count ∙ was.count;
      live = λ live. now.live (was.live live);
      stands = λ seen stands. now.stands seen (was.stands seen stands);
      put = subst (TakesFront old held owed) (sym now.poured.put)
          (front_pending _ _ _ _ _ _ _ was.put c.in_ok-make_room.ensures.ok);
      later = omega (arith, was.later, c.in_ok-make_room.ensures.cause.later);
    }
