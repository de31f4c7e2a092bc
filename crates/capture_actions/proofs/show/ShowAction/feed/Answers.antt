use Rattle.std.proofs.Common.{◌∙◌, ◌++◌, [], List, sym, ap, subst, take}
use Rattle.capture_actions.specs.Names.{Event, Packet, Plan, placed, report_of}
use Rattle.capture_actions.specs.CaptureReading as readings
use Rattle.capture_actions.specs.Filter.{plan_by, HasSeen}
use Rattle.recovering_machines.specs.HearingLaws.{took_read}
use Rattle.capture_actions.specs.LineLaws.{lines_append}
use Rattle.capture_actions.specs.Lister.{gets}
use Rattle.capture_actions.specs.Listing.{lines_after}
use Rattle.capture_actions.specs.Show.{plan_of}
use Rattle.capture_actions.specs.SourceClocks.{AllStand}
use Rattle.capture_actions.specs.declared.list_plan.ListPlan.{ListPlan}
use Rattle.capture_actions.proofs.show.ShowAction.feed.Goals.{After-take}
use Rattle.capture_actions.proofs.show.ShowAction.feed.Goals as goal

took : (c : After-take) →
    gets (c.args.self.now.lister, c.args.outlet.now) c.take.ensures.reads.0 (c.take.new.out, c.take.new.to)
took c =
    took_read gets (c.args.self.now.lister, c.args.outlet.now) (c.take.new.out, c.take.new.to)
    c.take.ensures.reads.0 c.take.ensures.reads.1

pub returns-clause-same : goal.returns-clause-same
returns-clause-same c =
    let old = c.args.self.now in
    ap (λ (plan : Plan). plan_by plan c.take.new.out.filter) c.take.ensures.same
    ∙ ap (λ (p : ListPlan). record { plan = readings.plan_of old.reading; only = p.only; window = p.window }) (took c).asked

pub returns-clause-fed : goal.returns-clause-fed
returns-clause-fed c = λ seen s.
    let old = c.args.self.now in
    let p = plan_of old in
    let before = c.args.outlet.now in
    let one = c.take.ensures in
    let lister = c.take.new.out in
    let next = seen ++ take c.take.result.bytes c.args.piece.now in
    let given = one.reads.0 in
    let put = took c in
    let grew = one.reads.2 seen s.reading in
    let report = report_of p.plan (placed seen) in
    let after = ap (λ (plan : Plan). report_of plan (placed next)) one.same ∙ grew.report in
    record {
      read = record {
        reading = grew.stands;
        plan = put.kept ∙ s.plan ∙ sym one.same;
        clocks = subst (λ (es : List (Event Packet)). AllStand lister.clocks es) (sym after) (put.clocks report s.clocks);
        filter = subst (λ (es : List (Event Packet)). HasSeen lister.filter es) (sym after) (put.seen report s.filter);
      };
      more = lines_after p report given;
      grown = ap (lines_after p []) grew.report ∙ lines_append p [] report given;
      gained = put.text report report s.clocks s.filter
          ∙ ap (λ (plan : Plan). before ++ lines_after (plan_by plan old.lister.filter) report given) s.plan;
      fault = grew.fault;
    }
