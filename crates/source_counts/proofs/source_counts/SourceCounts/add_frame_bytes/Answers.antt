use Rattle.std.proofs.Common.{List, None, ℕ, ◌+◌, ◌*◌, ◌/◌, sym, ◌∙◌, arith, subst}
use Rattle.std.specs.Prelude.{slice_index}
use Rattle.trace_values.specs.Cells.{source_id}
use Rattle.frame_grammar.specs.Frame.{cells, cells_below, run_at}
use Rattle.frame_grammar.proofs.Looks.{starts}
use Rattle.frame_grammar.proofs.Pairs.{even_named, even_plain}
use Rattle.source_counts.specs.declared.source_counts.SourceCounts.{SourceCounts}
use Rattle.source_counts.proofs.Whole.{IsLazy, IsRun, IsGoing, going_plain, going_named, lazy_none, last_plain, last_named, has_bytes, items_counted}
use Rattle.source_counts.proofs.source_counts.SourceCounts.add_frame_bytes.Goals as goal
use Rattle.source_counts.proofs.source_counts.SourceCounts.add_frame_bytes.Goals.{then-mixed-eq0, else-mixed-eq0}

pub loop-pair-init : goal.loop-pair-init
loop-pair-init c =
    let s = starts c.args.frame.now c.args.before in
    record {
      code_few = c.id_bits-id.ensures.few;
      pending_few = omega arith;
      total = omega arith;
      id = c.id_bits-id.ensures.id ∙ s.id_is;
      part = λ at. subst (λ (r : ℕ). IsLazy c.args.self.now c.args.self.now (cells_below c.args.frame.now at c.args.before 0) (source_id c.id_bits-id.result) r 0) s.run_is (lazy_none c.args.self.now (source_id c.id_bits-id.result));
    }

pub loop-pair-preserved : goal.loop-pair-preserved
loop-pair-preserved c =
    let frame = c.args.frame.now in
    let before = c.args.before in
    let old = c.args.self.now in
    let k = c.loop-pair.pair in
    let less = c.loop-pair-test.true in
    elim c.if-mixed-eq0.branch [
      | then-mixed-eq0 w ↦
          subst (λ (s : SourceCounts). IsGoing old s frame before (k + 1) c.if-mixed-eq0.id c.if-mixed-eq0.pending) (sym w.self-is)
          (subst (λ (n : ℕ). IsGoing old c.loop-pair.self frame before (k + 1) n c.if-mixed-eq0.pending) (sym w.id-is)
          (subst (λ (n : ℕ). IsGoing old c.loop-pair.self frame before (k + 1) c.loop-pair.id n) (sym w.pending-is)
          (going_plain old c.loop-pair.self frame before k c.loop-pair.id c.loop-pair.pending less (even_plain (slice_index frame (2 * k)) w.if-mixed-eq0.true) c.loop-pair.invariant)))
      | else-mixed-eq0 w ↦
          let e = w.add_run.ensures in
          let run : IsRun c.loop-pair.self w.add_run.new.self (source_id c.loop-pair.id) (c.loop-pair.pending + w.from-deferred.result) =
          record { bytes = e.bytes; items = e.items; unattributed = e.unattributed; frames = e.frames; total = e.total } in
          subst (λ (s : SourceCounts). IsGoing old s frame before (k + 1) c.if-mixed-eq0.id c.if-mixed-eq0.pending) (sym w.self-is)
          (subst (λ (n : ℕ). IsGoing old w.add_run.new.self frame before (k + 1) n c.if-mixed-eq0.pending) (sym w.id-is)
          (subst (λ (n : ℕ). IsGoing old w.add_run.new.self frame before (k + 1) (slice_index frame (2 * k) / 2) n) (sym w.pending-is)
          (going_named old c.loop-pair.self w.add_run.new.self frame before k c.loop-pair.id c.loop-pair.pending w.from-deferred.result less
          (even_named (slice_index frame (2 * k)) w.if-mixed-eq0.false) (c.fits-frame (2 * k)) w.from-deferred.ensures (let h = w.from-deferred.ensures in omega arith) run c.loop-pair.invariant)))
    ]

-- with its last run all of the frame is counted
plain : (c : goal.After-new) → (at : List ℕ) → IsLazy c.args.self.now c.add_run-then-last-eq0.new.self
    (cells c.args.frame.now at c.args.before) None (run_at c.args.frame.now 14 + 1) 0
plain c at =
    let e = c.add_run-then-last-eq0.ensures in
    let run : IsRun c.loop-pair.self c.add_run-then-last-eq0.new.self (source_id c.loop-pair.id) (c.loop-pair.pending + 1) =
    record { bytes = e.bytes; items = e.items; unattributed = e.unattributed; frames = e.frames; total = e.total } in
    last_plain c.args.frame.now at c.args.before c.args.self.now c.loop-pair.self c.add_run-then-last-eq0.new.self (source_id c.loop-pair.id)
    c.loop-pair.pair c.loop-pair.pending (omega arith) (even_plain (slice_index c.args.frame.now 14) c.if-last-eq0.true)
    c.loop-pair.invariant.id run (c.loop-pair.invariant.part at)

named : (c : goal.After-new-else-last-eq0) → (at : List ℕ) → IsLazy c.args.self.now c.add_run-else-last-eq0.new.self
    (cells c.args.frame.now at c.args.before) None (run_at c.args.frame.now 14 + 1) 0
named c at =
    let e = c.add_run-else-last-eq0.ensures in
    let run : IsRun c.loop-pair.self c.add_run-else-last-eq0.new.self (source_id c.loop-pair.id) c.loop-pair.pending =
    record { bytes = e.bytes; items = e.items; unattributed = e.unattributed; frames = e.frames; total = e.total } in
    last_named c.args.frame.now at c.args.before c.args.self.now c.loop-pair.self c.add_run-else-last-eq0.new.self (source_id c.loop-pair.id)
    c.loop-pair.pair c.loop-pair.pending (omega arith) (even_named (slice_index c.args.frame.now 14) c.if-last-eq0.false) run
    (c.loop-pair.invariant.part at)

pub returns-then-last-eq0-clause-bytes : goal.returns-then-last-eq0-clause-bytes
returns-then-last-eq0-clause-bytes c = λ frames at s. has_bytes _ _ frames _ _ (plain c at) _ s

pub returns-then-last-eq0-clause-items : goal.returns-then-last-eq0-clause-items
returns-then-last-eq0-clause-items c = λ frames at s. items_counted _ _ frames _ _ (plain c at) s

pub returns-else-last-eq0-clause-bytes : goal.returns-else-last-eq0-clause-bytes
returns-else-last-eq0-clause-bytes c = λ frames at s. has_bytes _ _ frames _ _ (named c at) _ s

pub returns-else-last-eq0-clause-items : goal.returns-else-last-eq0-clause-items
returns-else-last-eq0-clause-items c = λ frames at s. items_counted _ _ frames _ _ (named c at) s
