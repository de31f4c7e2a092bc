use Rattle.std.proofs.Common.{[], ◌∷◌, ◌++◌, ◌∙◌, ap, sym, subst, arith}
use Rattle.stp_codec.specs.Names.{nibbles_of, low_of, LocksAfter, goes_on}
use Rattle.stp_codec.specs.Decoder.{is_hunter}
use Rattle.stp_codec.proofs.Bytes.{of_byte, grows_high, grows_low, grows_faulty, faulty_list, ended, given_goes}
use Rattle.stp_codec.proofs.Bytes.{high_answer, low_answer, fault_answer}
use Rattle.stp_codec.proofs.Pairs.{by_high, by_low, by_fault}
use Rattle.stp_codec.proofs.Passing.{sound_at}
use Rattle.stp_codec.proofs.decoder.StpDecoder.feed_settled.Goals as goal

pub take_nibble-requires-clause-room : goal.take_nibble-requires-clause-room
take_nibble-requires-clause-room c = let k = c.take_nibble-low.ensures.more in omega (arith, k.0)

pub take_nibble-requires-clause-count : goal.take_nibble-requires-clause-count
take_nibble-requires-clause-count c = let k = c.take_nibble-low.ensures.more in omega (arith, k.1)

pub take_nibble-requires-in-Item-clause-count : goal.take_nibble-requires-in-Item-clause-count
take_nibble-requires-in-Item-clause-count c = let k = c.take_nibble-low.ensures.more in omega (arith, k.1)

pub returns-in-Quiet-clause-reads : goal.returns-in-Quiet-clause-reads
returns-in-Quiet-clause-reads c = λ u s.
    let d = c.args.self.now in
    let first = c.take_nibble-low in
    let second = c.take_nibble in
    let n = nibbles_of u in
    let mid = n ++ low_of c.args.at c.args.byte ∷ [] in
    let low = first.ensures.list n s in
    record {
      list = of_byte second.new.self u c.args.at c.args.byte (omega (arith, c.ranges.byte)) (second.ensures.list mid low);
      grows = grows_high d.order first.new.self.order (is_hunter d) (is_hunter first.new.self) u c.args.at c.args.byte first.ensures.same
          first.result second.result (first.ensures.step n s) (omega (arith, c.ranges.byte)) (second.ensures.step mid low) c.in-Quiet.is;
      grammar = λ k.
          high_answer d.order (is_hunter d) n c.args.at c.args.byte first.result second.result
          first.new.self.order (is_hunter first.new.self) (omega (arith, c.ranges.byte)) first.ensures.same c.in-Quiet.is
          (first.ensures.grammar n s k) (second.ensures.grammar mid low (first.ensures.stays k).0);
    }

pub returns-in-Item-clause-reads : goal.returns-in-Item-clause-reads
returns-in-Item-clause-reads c = λ u s.
    let d = c.args.self.now in
    let first = c.take_nibble-low in
    let second = c.take_nibble-in-Item in
    let n = nibbles_of u in
    let mid = n ++ low_of c.args.at c.args.byte ∷ [] in
    let low = first.ensures.list n s in
    let e = ended first.result first.new.self.partial _ c.in-Item.is first.ensures.ends in
    record {
      list = of_byte second.new.self u c.args.at c.args.byte (omega (arith, c.ranges.byte)) (second.ensures.list mid low);
      grows = grows_low d.order first.new.self.order (is_hunter d) (is_hunter first.new.self) u c.args.at c.args.byte first.ensures.same
          first.result second.result (first.ensures.step n s) (omega (arith, c.ranges.byte)) (second.ensures.step mid low) c.in-Item.is
          (second.ensures.quiet e.0 e.1);
      grammar = λ k.
          low_answer d.order (is_hunter d) n c.args.at c.args.byte first.result second.result
          first.new.self.order (is_hunter first.new.self) (omega (arith, c.ranges.byte)) first.ensures.same c.in-Item.is
          (second.ensures.quiet e.0 e.1) (first.ensures.grammar n s k) (second.ensures.grammar mid low (first.ensures.stays k).0);
    }

pub returns-in-Fault-clause-reads : goal.returns-in-Fault-clause-reads
returns-in-Fault-clause-reads c = λ u s.
    let d = c.args.self.now in
    let first = c.take_nibble-low in
    let n = nibbles_of u in
    record {
      list = faulty_list first.new.self u c.args.at c.args.byte c.in-Fault.ensures.tells.0 (first.ensures.list n s);
      grows = grows_faulty d.order (is_hunter d) u c.args.at c.args.byte first.result c.in-Fault.field-0 c.in-Fault.is (first.ensures.step n s);
      grammar = λ k. fault_answer d.order (is_hunter d) n c.args.at c.args.byte first.result c.in-Fault.field-0 c.in-Fault.is (first.ensures.grammar n s k);
    }

pub returns-in-Item-clause-tells : goal.returns-in-Item-clause-tells
returns-in-Item-clause-tells c =
    let first = c.take_nibble-low in
    let second = c.take_nibble-in-Item in
    let e = ended first.result first.new.self.partial _ c.in-Item.is first.ensures.ends in (
      second.ensures.tells.0 ∙ ap goes_on (second.ensures.quiet e.0 e.1) ∙ sym (given_goes first.result c.in-Item.is),
      subst (λ k. LocksAfter k first.result) (sym (second.ensures.stays e.1).1) first.ensures.tells.1,
      first.ensures.tells.2,
    )

pub returns-in-Quiet-clause-takes : goal.returns-in-Quiet-clause-takes
returns-in-Quiet-clause-takes c = λ n s.
    let first = c.take_nibble-low in
    let second = c.take_nibble in
    let mid = n ++ low_of c.args.at c.args.byte ∷ [] in
    let low = first.ensures.list n s in
    by_high c.args.self.now first.new.self second.new.self n c.args.at c.args.byte (omega (arith, c.ranges.byte))
    first.ensures.same first.result second.result second.ensures.settled (second.ensures.list mid low)
    (first.ensures.step n s) (second.ensures.step mid low) c.in-Quiet.is second.ensures.half

pub returns-in-Item-clause-takes : goal.returns-in-Item-clause-takes
returns-in-Item-clause-takes c = λ n s.
    let first = c.take_nibble-low in
    let second = c.take_nibble-in-Item in
    let mid = n ++ low_of c.args.at c.args.byte ∷ [] in
    let low = first.ensures.list n s in
    by_low c.args.self.now first.new.self second.new.self n c.args.at c.args.byte (omega (arith, c.ranges.byte))
    first.ensures.same first.result second.result second.ensures.settled (second.ensures.list mid low)
    (first.ensures.step n s) (second.ensures.step mid low) c.in-Item.is
    (let e = ended first.result first.new.self.partial _ c.in-Item.is first.ensures.ends in
    second.ensures.quiet e.0 e.1)

pub returns-in-Fault-clause-takes : goal.returns-in-Fault-clause-takes
returns-in-Fault-clause-takes c = λ n s.
    let d = c.args.self.now in
    let first = c.take_nibble-low in
    by_fault d first.new.self n c.args.at c.args.byte first.result c.in-Fault.field-0 c.in-Fault.is
    first.ensures.half first.ensures.settled (first.ensures.list n s)
    (sound_at d.order d.mode d.live d.partial d.attribution n c.requires.live s) (first.ensures.step n s)
