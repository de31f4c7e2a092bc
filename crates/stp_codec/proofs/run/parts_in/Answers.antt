use Rattle.std.proofs.Common.{◌≡◌, sym, subst, arith}
use Rattle.stp_codec.specs.Names.{Go, Msn, StpPacket, IsProper}
use Rattle.stp_codec.specs.Parts.{packet_of, row_packet_of}
use Rattle.stp_codec.specs.Wholes.{nibbles_in, between, Ends, left_by}
use Rattle.stp_grammar.proofs.Saying.{of_row}
use Rattle.stp_codec.proofs.Between.{length-nibbles}
use Rattle.stp_codec.proofs.Running.{fewer_within}
use Rattle.stp_codec.proofs.run.parts_in.Goals as goal

pub returns-in-Some : goal.returns-in-Some
returns-in-Some c =
    let x = c.in-Some.parts in
    let e = c.in-Some.ensures in
    let number = e.number in
    let end = e.end in
    let xs = nibbles_in c.args.bytes.now in
    let l = length-nibbles c.args.bytes.now in
    let is : packet_of x ≡ row_packet_of x = of_row x.number x.payload x.size x.word number in
    record {
      number = omega (arith, number);
      none = λ async. absurd (omega (arith, number, async));
      some = end.0;
      proper = subst (λ (p : StpPacket). IsProper p) (sym is) e.proper;
      ends = λ within. (
        end.1,
        subst (λ (p : StpPacket). Ends Msn (Go (left_by Msn c.args.first)) (between xs 0 x.nibbles) p) (sym is) e.whole,
      );
      goes = λ more. (
        omega (arith, more, end.1),
        fewer_within (left_by Msn c.args.first) xs c.args.there x.nibbles (row_packet_of x) more (omega (arith, l, more, end.1)) e.whole,
      );
    }
