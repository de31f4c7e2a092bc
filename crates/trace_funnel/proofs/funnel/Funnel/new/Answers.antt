use Rattle.std.proofs.Common.{◌∙◌, ap, length, map, arith}
use Rattle.trace_funnel.specs.Turns.{empty}
use Rattle.trace_funnel.proofs.Fields.{fresh_whole}
use Rattle.trace_funnel.proofs.funnel.Funnel.new.Goals as goal

pub invariant_of-result : goal.invariant_of-result
invariant_of-result c =
    let e = c.as_slice.ensures.value in
    fresh_whole _ c.args.order.now.items (c.in_ok-order.ensures.items ∙ c.as_slice-2.ensures.value)
    (c.in_ok-queues.ensures.places ∙ ap empty e) (c.in_ok-queues.ensures.rooms ∙ ap (map (λ _. c.args.depth)) e)
    (let f = ap length e in let g = c.as_slice.ensures.fits in omega (arith, f, g)) c.requires.apart c.requires.hold.0
    c.requires.hold.1 c.requires.depth.0
