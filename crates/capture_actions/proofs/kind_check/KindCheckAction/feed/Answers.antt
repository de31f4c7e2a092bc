use Rattle.std.proofs.Common.{◌≡◌, ◌∙◌, ◌++◌, [], List, refl, sym, ap, subst, take}
use Rattle.capture_actions.specs.Names.{Event, Packet, Plan, placed, report_of}
use Rattle.capture_actions.specs.Faulty.{read_of}
use Rattle.capture_actions.specs.CaptureReading as readings
use Rattle.capture_actions.specs.KindCheck.{plan_of, last_by}
use Rattle.recovering_machines.specs.HearingLaws.{took_read}
use Rattle.capture_actions.specs.KindCounts.{HasCounted, gets}
use Rattle.capture_actions.proofs.Parts.{still_paid}
use Rattle.capture_actions.proofs.ReadWhole.{read_whole}
use Rattle.capture_actions.proofs.kind_check.KindCheckAction.feed.Goals as goal

pub returns-clause-fed : goal.returns-clause-fed
returns-clause-fed c = λ seen s.
    let old = c.args.self.now in
    let one = c.take in
    let new = one.new in
    let p = plan_of old in
    let q = readings.plan_of new.self in
    let next = seen ++ take one.result.bytes c.args.piece.now in
    let grew = one.ensures.reads.2 seen s.reading in
    let same = one.ensures.same in
    record {
      read = record {
        reading = grew.stands;
        read = subst (λ (r : Plan). read_of r next ≡ next) (sym same) (read_whole p next one.result.is_faulty grew.fault);
        kinds = subst (λ (l : List (Event Packet)). HasCounted new.out l)
            (sym (ap (λ (r : Plan). report_of r (placed next)) same ∙ grew.report))
            (took_read gets (old.kinds, tt) (new.out, tt) one.ensures.reads.0 one.ensures.reads.1
            (report_of p (placed seen)) s.kinds);
      };
      more = [];
      grown = refl;
      gained = still_paid p q old.kinds new.out old.lines (last_by p old.reading.stop old.tails)
          (last_by q new.self.stop old.tails) c.args._outlet.now c.requires.idle.0;
      fault = grew.fault;
    }
