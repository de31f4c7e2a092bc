use Rattle.std.proofs.Common.{◌≡◌, ◌+◌, [], ◌∷◌, ◌++◌, take, sym, ◌∙◌, ap, subst, arith, Option}
use Rattle.std.specs.Prelude.{◌==◌}
use Rattle.recovering_machines.specs.declared.mapped.MappedSource.{MappedSource}
use Rattle.recovery_engine.specs.declared.slot.RecoveringSlot.{RecoveringSlot}
use Rattle.recovery_engine.specs.Fresh.{IsAdded, IsFresh}
use Rattle.recovery_engine.specs.Slots.{source_at, total}
use Rattle.recovery_engine.proofs.Adding.{added_push, none_yet, source_push, total_push, pushed}
use Rattle.recovery_engine.proofs.slot.add_slots.Goals as goal

pub loop-id-init : goal.loop-id-init
loop-id-init c = record {
  added = λ x. none_yet c.args.guesses c.args.plan.now c.args.kind x (source_at c.args.slots.now.items x);
  count = omega arith;
  few = omega arith;
}

pub loop-id-preserved : goal.loop-id-preserved
loop-id-preserved c =
    let i = c.loop-id.invariant in
    let slot : RecoveringSlot = record { id = c.id-item.result; source = c.new.result } in
    let all : c.push.new.self.items ≡ c.loop-id.slots.items ++ slot ∷ [] = c.push.ensures.items in
    let fresh : IsFresh c.args.guesses c.args.plan.now c.args.kind c.new.result = record {
      kind_is = c.new.ensures.kind;
      reads = c.new.ensures.reads;
      says = c.new.ensures.guesses;
      list = c.new.ensures.fresh;
      guess = c.new.ensures.guess;
    } in
    record {
      added = λ x.
          subst (λ (o : Option MappedSource). IsAdded c.args.guesses c.args.plan.now c.args.kind
          (take (c.loop-id.id-index + 1) c.args.ids.now) x (source_at c.args.slots.now.items x) o)
          (ap (λ y. pushed (source_at c.loop-id.slots.items x) (y == x) c.new.result) (sym c.id-item.is)
          ∙ sym (source_push c.loop-id.slots.items slot x) ∙ ap (λ l. source_at l x) (sym all))
          (added_push c.args.guesses c.args.plan.now c.args.kind c.new.result fresh c.args.ids.now c.loop-id.id-index
          c.id-item.result x (source_at c.args.slots.now.items x) (source_at c.loop-id.slots.items x)
          c.loop-id-test.true (i.added x));
      count = (let a = c.push.ensures.len in let b = i.count in omega (arith, a, b));
      few = (let a = ap total all in let b = total_push c.loop-id.slots.items slot in let d =
          c.new.ensures.few in let e = i.few in omega (arith, a, b, d, e));
    }
