use Rattle.std.proofs.Common.{◌≡◌, sym, ◌∙◌, subst, arith, Some, true}
use Rattle.std.proofs.lemmas.Bool.Decides.{nat_tests}
use Rattle.recovery_engine.specs.Ends.{EndsAs}
use Rattle.recovery_engine.specs.Slots.{source_at}
use Rattle.recovery_engine.proofs.Ending.{ends_at}
use Rattle.recovery_engine.proofs.ends.+source_tail.Goals as goal

pub returns-then-eq : goal.returns-then-eq
returns-then-eq t c =
    let slot = c.in-Some.slot.now in
    let x = c.args.id in
    let kind = c.args.kind in
    let same : slot.id ≡ x = (let h = c.if-eq.true in let f = c.eq.ensures in grind (arith, nat_tests)) in
    subst (λ l. EndsAs x kind (source_at l x) (Some c.slot_tail.result)) (sym c.in-Some.ensures.cases.0)
    (ends_at x kind slot c.in-Some.rest.now true (Some c.slot_tail.result) (sym c.eq.ensures ∙ c.if-eq.true)
    (subst (λ i. EndsAs i kind (Some slot.source) (Some c.slot_tail.result)) same c.slot_tail.ensures))
