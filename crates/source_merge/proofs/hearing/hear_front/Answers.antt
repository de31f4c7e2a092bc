use Rattle.std.proofs.Common.{Option, ◌≡◌, ◌≤◌, ◌+◌, ◌*◌, ◌++◌, ℕ, Bool, rules, ap, length, subst, sym, take, ◌∙◌}
use Rattle.std.proofs.Math.Nat.{min-le_left, min-le_right}
use Rattle.std.specs.Option.{option_map}
use Rattle.trace_values.specs.Placed.{placed_from}
use Rattle.recovering_machines.specs.Hearing.{takes_read}
use Rattle.recovery_engine.specs.Engine as recovering
use Rattle.recovery_engine.specs.PerSource.{total_of}
use Rattle.recovery_engine.specs.declared.per_source.PerSource.{PerSource}
use Rattle.recovery_laws.specs.Strict.{first_fault, upto}
use Rattle.source_events.specs.Report.{stop_of}
use Rattle.source_events.specs.declared.event.Stop.{Stop}
use Rattle.source_merge.specs.UpTo.{before, fault_after}
use Rattle.recovery_report.specs.Report.{report_with}
use Rattle.source_events.specs.declared.plan.Plan.{Plan}
use Rattle.source_merge.specs.Hearing.{most_of as most}
use Rattle.source_merge.specs.Counting.{Counts, CountsFew}
use Rattle.source_merge.proofs.Spent.{spent, spared}
use Rattle.source_merge.proofs.hearing.hear_front.Goals as goal

pub returns : goal.returns
returns g c =
    let h = c.take.ensures in
    let es = h.given.0 in
    let k = h.given.1 in
    let old = c.args.recovery.now in
    let room = g.V.Receiver.room in
    let out = c.take.new.out in
    let left = c.min-left.result in
    let within : left ≤ room (c.args.out.now, c.args.to.now) =
    subst (λ (n : ℕ). left ≤ n) c.events_left.ensures
    (subst (λ (n : ℕ). n ≤ c.events_left.result) (sym c.min-left.ensures)
    (min-le_left c.events_left.result c.most_of-most.result)) in
    let below : left ≤ c.most_of-most.result =
    subst (λ (n : ℕ). n ≤ c.most_of-most.result) (sym c.min-left.ensures)
    (min-le_right c.events_left.result c.most_of-most.result) in
    let limit : c.most_of-most.result ≡ most (recovering.plan_of old).frames (length c.args.piece.now) =
    c.most_of-most.ensures ∙ ap (λ (p : Plan). most p.frames (length c.args.piece.now)) c.plan.ensures in (
      es,
      record {
        bytes = h.bytes;
        plan = h.plan;
        guesses = h.guesses;
        next = h.next;
        list = h.list;
        late = h.late;
        got = subst (λ r. takes_read g.V.Receiver.gets (c.args.out.now, c.args.to.now) (upto es) (r, c.take.new.to))
            (search (rules, k.to_same))
            (subst (λ (o : Option Stop). takes_read g.V.Receiver.gets (c.args.out.now, c.args.to.now) (before o es)
            (out.receiver.now, c.take.new.to)) c.requires.going k.receiver);
        fault = subst (λ (o : Option Stop). option_map stop_of o ≡ first_fault es) (search (rules, k.stop_same))
            (subst (λ (o : Option Stop). option_map stop_of out.stop.now ≡ fault_after o es) c.requires.going k.stop);
        counted = subst (λ (p : PerSource). CountsFew c.args.items.now p (30 * c.take.result) (upto es))
            (search (rules, k.count_same))
            (record {
              counts = subst (λ (o : Option Stop). Counts c.args.items.now out.items.now (before o es))
                  c.requires.going k.counted;
              total = spent left (room (c.args.out.now, c.args.to.now)) out.left
                  (room (out.receiver.now, c.take.new.to)) (total_of c.args.items.now) (total_of out.items.now)
                  (30 * c.take.result) within k.spent h.room;
            });
        space = subst (λ r. room (c.args.out.now, c.args.to.now) ≤ room (r, c.take.new.to)
            + most (recovering.plan_of old).frames (length c.args.piece.now)) (search (rules, k.to_same))
            (subst (λ (n : ℕ). room (c.args.out.now, c.args.to.now) ≤ room (out.receiver.now, c.take.new.to) + n)
            limit
            (spared left (room (c.args.out.now, c.args.to.now)) out.left (room (out.receiver.now, c.take.new.to))
            c.most_of-most.result below k.space));
        grew = λ u s.
            subst (λ (b : Bool). report_with b (recovering.plan_of old)
            (u ++ placed_from c.args.at (take c.take.result c.args.piece.now))
            ≡ report_with b (recovering.plan_of old) u ++ es) c.requires.sure (h.given.2 u s);
      },
    )
