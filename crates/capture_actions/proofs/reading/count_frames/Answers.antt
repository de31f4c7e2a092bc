use Rattle.std.proofs.Common.{◌≡◌, ◌∙◌, ◌+◌, ◌++◌, ℕ, List, take, drop, subst, sym, ap, append_assoc, take-add, arith}
use Rattle.std.proofs.lemmas.List.{length-take-le}
use Rattle.capture_actions.specs.Names.{Placed, placed_from}
use Rattle.trace_values.proofs.Placing.{placed_from_append}
use Rattle.source_merge.specs.Engine as engine
use Rattle.capture_actions.proofs.Feeds.{rest_of}
use Rattle.capture_actions.proofs.reading.count_frames.Goals as goal

pub loop-done-preserved : goal.loop-done-preserved
loop-done-preserved c =
    let i = c.loop-done.invariant in
    let some = c.in-Some.ensures in
    let p = c.args.piece.now in
    let at = engine.next_of c.args.reading.now in
    let done = c.loop-done.done in
    let bytes = c.in-Some.bytes in
    let new = c.count_frame.new.self in
    let more = c.loop-done-test.true in
    let here : c.next-at.result ≡ at + done = c.next-at.ensures ∙ i.next in
    record {
      few = (let b = some.bytes in let f = i.few in omega arith);
      same = some.same ∙ i.same;
      next = some.next ∙ ap (λ (n : ℕ). n + bytes) here ∙ (let k : at + done + bytes ≡ at + (done + bytes) = omega arith in k);
      live = some.live;
      list = λ u s.
          let w = placed_from at (take done p) in
          subst (λ (l : List ℕ). engine.Stands new (u ++ placed_from at l)) (sym (take-add done bytes p))
          (subst (λ (l : List Placed). engine.Stands new (u ++ l)) (sym (placed_from_append at (take done p) (take bytes (drop done p))))
          (subst (λ (n : ℕ). engine.Stands new (u ++ (w ++ placed_from n (take bytes (drop done p)))))
          (here ∙ ap (λ (n : ℕ). at + n) (sym (length-take-le done p i.few)))
          (subst (λ (l : List Placed). engine.Stands new l) (append_assoc u w (placed_from c.next-at.result (take bytes (drop done p))))
          (subst (λ (l : List ℕ). engine.Stands new ((u ++ w) ++ placed_from c.next-at.result (take bytes l))) (rest_of done p)
          (some.list (u ++ w) (i.list u s))))));
    }
