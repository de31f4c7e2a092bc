use Rattle.std.proofs.Common.{◌≡◌, subst}
use Rattle.std.specs.Prelude.{IsTrue}
use Rattle.trace_funnel.specs.Turns.{load}
use Rattle.trace_funnel.specs.State.{State}
use Rattle.trace_funnel.proofs.Fields.{empty_is}
use Rattle.trace_funnel.proofs.funnel.Funnel.is_empty.Goals as goal

pub returns : goal.returns
returns c =
    let b = c.is_none.result in
    subst (λ (s : State). (IsTrue b → load s.places ≡ 0) × (load s.places ≡ 0 → IsTrue b)) c.self.view_is
    (empty_is c.self.inside.queues.items c.as_slice.result.now c.first_busy.result b c.as_slice.ensures.value
    c.first_busy.ensures.value c.is_none.ensures)
