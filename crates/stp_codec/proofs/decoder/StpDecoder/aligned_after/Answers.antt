use Rattle.std.proofs.Common.{[], ◌≡◌, ◌<◌, ◌∙◌, ap, arith, sym, subst, false}
use Rattle.stp_codec.specs.Names.{Quiet, goes_on}
use Rattle.stp_codec.specs.Decoder.{StandsAt, is_hunter, order_of}
use Rattle.stp_codec.specs.Reading.{items_at}
use Rattle.stp_codec.proofs.Afterwards.{none_after, reads_at, says_after, stands_after, starts_at}
use Rattle.stp_codec.proofs.Taken.{held_read, settles_at, settles_read, settles_same, settles_skipped}
use Rattle.stp_codec.proofs.decoder.StpDecoder.aligned_after.Goals as goal

pub returns-then-half-eq0 : goal.returns-then-half-eq0
returns-then-half-eq0 c =
    let d = c.aligned-reader.result in
    let small : c.args.byte < 256 = omega (arith, c.ranges.byte) in
    let q = c.settle.new.self in
    let z = c.take_nibble.new.self in
    let same = settles_same d q c.settle.ensures in
    let hunts : is_hunter q ≡ false = same.1 ∙ c.aligned-reader.ensures.mode in
    let order : order_of q ≡ c.args.order = same.0 ∙ c.aligned-reader.ensures.order in
    let fresh = settles_at d q c.settle.ensures [] c.aligned-reader.ensures.fresh in
    let t = c.take_nibble.ensures in
    let quiet : c.take_nibble.result ≡ Quiet =
    t.quiet (c.settle.ensures.partial ∙ starts_at d c.aligned-reader.ensures.mode c.aligned-reader.ensures.fresh)
    (reads_at q hunts) in
    let says = says_after q c.args.order c.args.at c.args.byte c.args.half c.take_nibble.result order hunts
    c.if-half-eq0.true small quiet (t.step [] fresh) in
    record {
      list = stands_after z c.args.at c.args.byte c.args.half c.if-half-eq0.true small t.settled
          (t.list [] fresh);
      given = says.0;
      sound = says.1;
      mode = t.same.1 ∙ hunts;
      order = t.same.0 ∙ order;
      live = t.tells.0 ∙ ap goes_on quiet;
      few =
          (let a = t.few in let b = held_read z t.settled in let e = settles_read d q c.settle.ensures in
          let f = settles_skipped d q c.settle.ensures in let g = c.aligned-reader.ensures.empty in
          omega (arith, a, b, e, f, g.0, g.1));
    }

pub returns : goal.returns
returns c =
    let d = c.aligned-reader.result in
    let none = none_after c.args.at c.args.byte c.args.half c.if-half-eq0.false in
    record {
      list = subst (StandsAt d) (sym none) c.aligned-reader.ensures.fresh;
      given = ap (λ n. (items_at c.args.order false n).given) none;
      sound = ap (λ n. (items_at c.args.order false n).fault) none;
      mode = c.aligned-reader.ensures.mode;
      order = c.aligned-reader.ensures.order;
      live = c.aligned-reader.ensures.live;
      few = (let g = c.aligned-reader.ensures.empty in omega (arith, g.0, g.1));
    }
