use Rattle.std.proofs.Common.{◌≡◌, ◌+◌, ◌<◌, ◌++◌, ◌∷◌, [], List, Some, ◌∙◌, ap, append-nil, arith, length}
use Rattle.std.proofs.Common.{subst, sym, take}
use Rattle.std.proofs.lemmas.Grind.{flat_map-append}
use Rattle.std.proofs.lemmas.List.{take_more}
use Rattle.trace_values.specs.declared.cell.Cell.{Cell}
use Rattle.source_events.specs.Merge.{told}
use Rattle.source_events.specs.Report.{raw_events}
use Rattle.recovery_engine.specs.Bare.{raw_each}
use Rattle.recovery_engine.proofs.router.give_each.Goals as goal

pub loop-index-preserved : goal.loop-index-preserved
loop-index-preserved g c =
    let x = c.args.id in
    let i = c.loop-index.index in
    let cells = g.R.Run.cells c.args.run.now in
    let cell = c.cell-only.result in
    let inside : i < length cells =
    (let n = c.len-index-end.ensures in let h = c.loop-index-test.true in omega (arith, n, h)) in
    let next : take (i + 1) cells ≡ take i cells ++ cell ∷ [] =
    take_more cells i cell inside ∙ ap (λ (k : Cell). take i cells ++ k ∷ []) (sym c.cell-only.ensures) in
    let size = ap length c.of.ensures in
    record {
      given =
          subst (λ l. g.V.Receiver.gets (c.args.out.now, c.args.to.now) l
          (c.give_raw.new.out, c.give_raw.new.to))
          (sym (ap (raw_each x) next
          ∙ flat_map-append (λ (k : Cell). told (Some x) (raw_events x (k ∷ []))) (take i cells) (cell ∷ [])
          ∙ ap (λ l. raw_each x (take i cells) ++ l) (append-nil (told (Some x) (raw_events x (cell ∷ []))))))
          (g.met.V.Receiver.adds_up.more (c.args.out.now, c.args.to.now) (c.loop-index.out, c.loop-index.to)
          (c.give_raw.new.out, c.give_raw.new.to) (raw_each x (take i cells))
          (told (Some x) (raw_events x (cell ∷ []))) c.loop-index.invariant.given
          (subst (λ (l : List Cell). g.V.Receiver.gets (c.loop-index.out, c.loop-index.to)
          (told (Some x) (raw_events x l)) (c.give_raw.new.out, c.give_raw.new.to)) c.of.ensures
          c.give_raw.ensures.given));
      space = (let a = c.loop-index.invariant.space in let b = c.give_raw.ensures.room in omega (arith, a, b, size));
    }
