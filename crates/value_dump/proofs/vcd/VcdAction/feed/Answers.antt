use Rattle.std.proofs.Common.{◌∙◌, ◌<◌, ◌++◌, ℕ, Bool, List, Option, sym, ap, subst, take, length, arith, append_assoc}
use Rattle.std.proofs.lemmas.List.{length-take-le}
use Rattle.capture_actions.proofs.Feeding.{stands_after, report_after, report_here, stop_after, fault_here}
use Rattle.value_dump.specs.Names.{Event, FaultAfter, IsFaulty, ItmPacket, Packet, itm_packets, placed, report_of}
use Rattle.value_dump.specs.Names.{source_of}
use Rattle.value_dump.specs.Dump.{lines_after}
use Rattle.value_dump.specs.DumpLaws.{packets_append}
use Rattle.value_dump.specs.Dumping as dumping
use Rattle.recovering_machines.specs.HearingLaws.{took_read}
use Rattle.value_dump.specs.SourceDump.{gets}
use Rattle.value_dump.specs.Vcd.{beginning}
use Rattle.value_dump.specs.VcdLaws.{dump_grows}
use Rattle.value_dump.specs.VcdStands.{plan_of}
use Rattle.value_dump.proofs.vcd.VcdAction.feed.Goals as goal

pub returns-clause-fed : goal.returns-clause-fed
returns-clause-fed c = λ seen s.
    let old = c.args.self.now in
    let p = plan_of old in
    let at = c.next-at.result in
    let one = c.take-bytes in
    let stop = one.new.stop in
    let new = one.new.self in
    let bytes = take one.result c.args.piece.now in
    let given = one.ensures.reads.0 in
    let put = took_read gets (old.source, c.begin.new.outlet) (one.new.out, one.new.to) given one.ensures.reads.1 in
    let list = one.ensures.takes.list (placed seen) s.engine in
    let reads = one.ensures.reads.2 (placed seen) s.engine in
    let same = one.ensures.takes.same in
    let report = report_of p.plan (placed seen) in
    let source = source_of p.plan in
    let before = itm_packets old.source.source report in
    let here = report_here old.engine new seen bytes at given stop s.engine c.next-at.ensures same list reads in
    let after = report_after old.engine new seen bytes at given stop s.engine c.next-at.ensures same list reads in
    let from = put.source ∙ s.source in
    let packets = itm_packets source report in
    let lines = lines_after p.hz packets (itm_packets source given) in
    let some : 0 < length bytes =
    (let k = length-take-le one.result c.args.piece.now one.ensures.takes.bytes.1 in
    omega (arith, k, one.ensures.takes.bytes.0)) in
    record {
      read = record {
        engine = stands_after old.engine new seen bytes at given stop s.engine c.next-at.ensures same list reads;
        source = from ∙ sym (ap source_of same);
        dump = subst (λ (l : List ItmPacket). dumping.Stands one.new.out.dump l)
            (sym (packets_append old.source.source report given)
            ∙ ap (λ (i : Option ℕ). itm_packets i (report ++ given)) (sym put.source)
            ∙ ap (λ (es : List (Event Packet)). itm_packets one.new.out.source es) (sym after))
            (put.stands before s.dump);
        stop = stop_after old.engine new seen bytes at given stop s.engine c.next-at.ensures same list reads;
      };
      more = beginning p seen ++ lines;
      grown = dump_grows p seen bytes given some here;
      gained = put.text before s.dump
          ∙ ap (λ (l : List ℕ). l ++ lines_after p.hz before (itm_packets old.source.source given))
          (c.begin.ensures.text seen s)
          ∙ append_assoc c.args.outlet.now (beginning p seen)
          (lines_after p.hz before (itm_packets old.source.source given))
          ∙ ap (λ (i : Option ℕ). c.args.outlet.now
          ++ (beginning p seen ++ lines_after p.hz (itm_packets i report) (itm_packets i given))) s.source;
      fault = subst (λ (f : Bool). FaultAfter (IsFaulty p.plan) (seen ++ bytes) f)
          (sym c.is_some.ensures)
          (fault_here old.engine new seen bytes at given stop s.engine c.next-at.ensures same list reads);
    }
