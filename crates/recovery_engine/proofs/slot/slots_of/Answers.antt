use Rattle.std.proofs.Common.{ℕ, List, subst}
use Rattle.source_events.specs.declared.plan.SourceKind.TheVariants.{Itm, Stp}
use Rattle.recovery_engine.specs.Fresh.{IsAdded}
use Rattle.recovery_engine.specs.Slots.{source_at}
use Rattle.recovery_engine.specs.declared.slot.RecoveringSlot.{RecoveringSlot}
use Rattle.recovery_engine.proofs.Adding.{both}
use Rattle.recovery_engine.proofs.slot.slots_of.Goals as goal

pub returns-clause-fresh : goal.returns-clause-fresh
returns-clause-fresh c = λ x.
    let plan = c.args.plan.now in
    both c.args.guesses plan x (source_at c.add_slots.new.slots.items x) (source_at c.add_slots-2.new.slots.items x)
    (subst (λ (l : List RecoveringSlot). IsAdded c.args.guesses plan Itm plan.itm x (source_at l x)
    (source_at c.add_slots.new.slots.items x)) c.new-slots.ensures
    (subst (λ (ids : List ℕ). IsAdded c.args.guesses plan Itm ids x (source_at c.new-slots.result.items x)
    (source_at c.add_slots.new.slots.items x)) c.as_slice.ensures.value (c.add_slots.ensures.added x)))
    (subst (λ (ids : List ℕ). IsAdded c.args.guesses plan Stp ids x (source_at c.add_slots.new.slots.items x)
    (source_at c.add_slots-2.new.slots.items x)) c.as_slice-2.ensures.value (c.add_slots-2.ensures.added x))
