use Rattle.std.proofs.Common.{◌∙◌, ◌+◌, ◌++◌, ℕ, Bool, sym, ap, subst, take, rules}
use Rattle.std.proofs.lemmas.List.{length-take-le}
use Rattle.capture_actions.specs.Names.{FaultAfter, placed}
use Rattle.capture_actions.specs.CaptureReading.{plan_of, taken_by}
use Rattle.capture_actions.specs.Faulty.{IsFaulty}
use Rattle.capture_actions.proofs.Feeding.{stands_after, report_here, stop_after, fault_here}
use Rattle.capture_actions.proofs.reading.CaptureReading.take_turn.Goals as goal

pub returns-clause-took : goal.returns-clause-took
returns-clause-took g c =
    let old = c.args.self.now in
    let at = c.next-at.result in
    let one = c.take-bytes in
    let stop = one.new.stop in
    let new = one.new.self in
    let piece = c.args.piece.now in
    let bytes = take one.result piece in
    let given = one.ensures.reads.0 in
    let same = one.ensures.takes.same in
    record {
      same = same;
      count = one.ensures.takes.next ∙ ap (λ (n : ℕ). n + one.result) c.next-at.ensures
          ∙ ap (λ (n : ℕ). taken_by old + n) (sym (length-take-le one.result piece one.ensures.takes.bytes.1));
      reads = (
        given,
        one.ensures.reads.1,
        λ seen s.
            let list = one.ensures.takes.list (placed seen) s.engine in
            let reads = one.ensures.reads.2 (placed seen) s.engine in
            record {
              stands = record {
                engine = stands_after old.engine new seen bytes at given stop s.engine c.next-at.ensures same list reads;
                stop = stop_after old.engine new seen bytes at given stop s.engine c.next-at.ensures same list reads;
              };
              report = report_here old.engine new seen bytes at given stop s.engine c.next-at.ensures same list reads;
              fault = subst (λ (f : Bool). FaultAfter (IsFaulty (plan_of old)) (seen ++ bytes) f)
                  (sym c.is_some.ensures)
                  (fault_here old.engine new seen bytes at given stop s.engine c.next-at.ensures same list reads);
            },
      );
      live = search rules;
    }
