use Rattle.std.proofs.Common.{◌∙◌, ◌++◌, sym, ap}
use Rattle.capture_actions.specs.Names.{placed, report_of}
use Rattle.capture_actions.specs.PortText.{source_of, values_in}
use Rattle.recovering_machines.specs.HearingLaws.{took_read}
use Rattle.capture_actions.specs.PortTextLaws.{values_append}
use Rattle.capture_actions.specs.PortValues.{gets}
use Rattle.capture_actions.specs.PortTexter.{plan_of}
use Rattle.capture_actions.proofs.port_text.PortTextAction.feed.Goals as goal

pub returns-clause-fed : goal.returns-clause-fed
returns-clause-fed c = λ seen s.
    let p = plan_of c.args.self.now in
    let one = c.take.ensures in
    let given = one.reads.0 in
    let put = took_read gets (c.args.self.now.values, c.args.outlet.now) (c.take.new.out, c.take.new.to) given one.reads.1 in
    let grew = one.reads.2 seen s.reading in
    let source = source_of p.plan in
    record {
      read = record {
        reading = grew.stands;
        source = ap (λ v. v.source) put.0 ∙ s.source ∙ sym (ap source_of one.same);
      };
      more = values_in source p.port given;
      grown = ap (values_in source p.port) grew.report
          ∙ values_append source p.port (report_of p.plan (placed seen)) given;
      gained = put.1 ∙ ap (λ i. c.args.outlet.now ++ values_in i p.port given) s.source;
      fault = grew.fault;
    }
