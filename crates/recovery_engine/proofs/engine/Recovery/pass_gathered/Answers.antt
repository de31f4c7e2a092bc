use Rattle.std.proofs.Common.{◌≡◌, ◌+◌, ◌*◌, ℕ, List, Option, ◌++◌, length, refl, sym, ◌∙◌, ap, subst, arith, map}
use Rattle.std.proofs.lemmas.List.{length-append}
use Rattle.trace_values.specs.declared.cell.Cell.{Cell}
use Rattle.trace_values.specs.Placed.{placed_from, units_of}
use Rattle.trace_values.proofs.Placing.{length-placed_from}
use Rattle.frame_grammar.specs.Frame.{cells, id_after}
use Rattle.frame_grammar.specs.Reading.{offsets_of}
use Rattle.frame_grammar.specs.Whole.{without_halves}
use Rattle.frame_grammar.proofs.Wholes.{whole_size}
use Rattle.frame_runs.specs.Gathered.{IsGathered, frame_places}
use Rattle.source_events.specs.Runs.{runs_of}
use Rattle.recovering_machines.specs.Port.{id_of}
use Rattle.recovery_report.specs.Port.{recovered}
use Rattle.recovery_report.specs.Report.{Run, parts_in}
use Rattle.recovery_engine.specs.Counting.{GrowsByFrame}
use Rattle.recovery_engine.proofs.Blocks.{port_list}
use Rattle.recovery_engine.proofs.Feeding.{next_more, rises_more}
use Rattle.recovery_engine.proofs.WholeFrames.{frame_counts, frame_late, frame_parts}
use Rattle.recovery_engine.proofs.engine.Recovery.pass_gathered.Goals as goal

pub invariant_of-self : goal.invariant_of-self
invariant_of-self c =
    let self = c.args.self.now in
    let size = c.size-bytes.ensures in
    record {
      port_few = (let p = self.port_few in let f = c.pass_frame.ensures.few in omega (arith, p, f, size));
      few = (let f = self.few in omega (arith, f, size));
      counted_few = (let f = self.counted_few in let t = c.add_frame-after.ensures.more in omega (arith, f, t, size));
      within = (let w = self.within in let o = c.requires.offsets.0 in omega (arith, w, o, size));
      limit = (let l = c.requires.offsets.1 in omega (arith, l, size));
    }

pub returns : goal.returns
returns c =
    let self = c.args.self.now in
    let frame = c.args.frame.now in
    let at = frame.at in
    let plan = self.plan in
    let own : List Cell = cells frame.bytes (frame_places frame) (id_of self.port) in
    let same : (w : List ℕ) → IsGathered at w frame → (let f = without_halves (placed_from at w) in
    cells (units_of f) (offsets_of f) (id_of self.port) ≡ own) = λ w q.
    (let f = without_halves (placed_from at w) in
    ap (λ (l : List ℕ). cells l (offsets_of f) (id_of self.port)) (q.whole.frame_is at)
    ∙ ap (λ (l : List ℕ). cells frame.bytes l (id_of self.port)) (sym q.offsets)) in
    let before : cells frame.bytes (frame_places frame) c.id-before.result ≡ own =
    ap (λ (i : Option ℕ). cells frame.bytes (frame_places frame) i) c.id-before.ensures in
    let gathered : (w : List ℕ) → IsGathered at w frame → length w ≡ 16 + 2 * frame.halves =
    λ w q. whole_size w frame.bytes frame.halves q.whole in
    record {
      plan = refl;
      guesses = refl;
      slots = refl;
      count = ap (λ (n : ℕ). self.count + n) c.size-bytes.ensures;
      next = ap (λ (n : ℕ). at + n) c.size-bytes.ensures;
      adds = λ u w k q. record {
        port_is =
            port_list self.port c.pass_frame.new.self u at w plan.frames
            (λ r s. c.pass_frame.ensures.list r (without_halves (placed_from at w)) frame.halves at w s
            (q.whole.spelled at) (c.add_frame-after.ensures.after ∙ ap (id_after frame.bytes) c.id-before.ensures
            ∙ ap (λ (l : List ℕ). id_after l (id_of self.port)) (sym (q.whole.frame_is at)))) k.port;
        counted = λ framed.
            c.add_frame-after.ensures.counted (recovered plan.frames u) (recovered plan.frames (u ++ placed_from at w))
            (frame_places frame)
            (subst (λ (l : List Cell). GrowsByFrame (recovered plan.frames u)
            (recovered plan.frames (u ++ placed_from at w)) frame.halves l) (same w q ∙ sym before)
            (frame_counts self.port at w (without_halves (placed_from at w)) frame.halves
            (λ r s. c.pass_frame.ensures.passes r _ frame.halves at w s (q.whole.spelled at))
            plan.frames u c.requires.framed k.port)) (k.counted c.requires.framed);
        count_is = (let e = k.count in let l = length-append u (placed_from at w) in let p = length-placed_from at w in
            let n = gathered w q in let s = c.size-bytes.ensures in omega (arith, e, l, p, n, s));
        next_is = next_more u at c.size-bytes.result w (gathered w q ∙ sym c.size-bytes.ensures) (let s = c.size-bytes.ensures in omega (arith, s));
        rising = rises_more u self.next at c.size-bytes.result w (gathered w q ∙ sym c.size-bytes.ensures) c.requires.offsets.0 k.rising;
        parts =
            frame_parts self.port at w (without_halves (placed_from at w)) frame.halves
            (λ r s. c.pass_frame.ensures.passes r _ frame.halves at w s (q.whole.spelled at))
            plan.frames u c.requires.framed k.port
            ∙ ap (λ (l : List Cell). parts_in (recovered plan.frames u) ++ map Run (runs_of l)) (same w q);
      };
      late = λ u w k q.
          frame_late self.port at w (without_halves (placed_from at w)) frame.halves
          (λ r s. c.pass_frame.ensures.passes r _ frame.halves at w s (q.whole.spelled at))
          plan.frames u c.requires.framed k.port;
    }
