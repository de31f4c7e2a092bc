use Rattle.std.proofs.Common.{◌≡◌, ◌<◌, length, sym, ◌∙◌, subst, ap, arith, None, true, false}
use Rattle.std.specs.Prelude.{◌==◌}
use Rattle.std.proofs.lemmas.Bool.Decides.{nat_tests}
use Rattle.stp_codec.specs.Names.{nibbles_of, Go, Partial, Passes, count_of}
use Rattle.stp_codec.specs.Reading.{items_in}
use Rattle.stp_codec.specs.Wholes.{Ends, between, nibbles_in}
use Rattle.stp_codec.specs.Decoder.{is_hunter, has_locked}
use Rattle.stp_codec.specs.Cuts.{CutsInto, IsProperCut}
use Rattle.stp_codec.proofs.Taking.{At}
use Rattle.stp_codec.proofs.Taken.{filled}
use Rattle.stp_codec.proofs.Unread.{reached_none}
use Rattle.stp_codec.proofs.PartPieces.{inside_passes, inside_count}
use Rattle.stp_codec.proofs.decoder.StpDecoder.take_settled.Goals as goal

pub returns-in-Inside-clause-some : goal.returns-in-Inside-clause-some
returns-in-Inside-clause-some c =
    let d = c.args.self.now in
    let t = c.in-Inside.partial in
    let locked : has_locked d ≡ true = search in
    let none : (length c.args.bytes.now == 0) ≡ false = sym c.is_empty.ensures ∙ c.if-is_empty.false in
    let some : 0 < length c.args.bytes.now = grind (arith, nat_tests) in
    let walks = subst (CutsInto d.order d.partial c.args.bytes.now) c.in-Inside.is c.in_ok-partial.ensures.cuts in
    let count = inside_count d.order d.partial t c.args.bytes.now walks in
    let old = filled d c.requires.settled in
    let new = reached_none d.order t d.held d.waiting c.requires.settled.0 in
    let old_count = ap (λ (p : Partial). count_of p) old in
    let new_count = ap (λ (p : Partial). count_of p) new in
    record {
      bytes = (some, omega arith);
      passes = λ u front last s e.
          subst (λ (p : Partial). Passes (items_in d.order (is_hunter d)) (λ w. At d.order d.mode d.live p d.attribution (nibbles_of w)) u front last None) (sym new)
          (subst (λ l. Passes (items_in d.order (is_hunter d)) (λ w. At d.order d.mode l t d.attribution (nibbles_of w)) u front last None) (sym c.requires.live)
          (inside_passes d.order d.mode d.attribution locked d.partial t c.args.bytes.now u front last walks
          (subst (λ l. At d.order d.mode l d.partial d.attribution (nibbles_of u)) c.requires.live
          (subst (λ (p : Partial). At d.order d.mode d.live p d.attribution (nibbles_of u)) old s)) e));
      fits = tt;
      few = omega (arith, count, old_count, new_count);
    }

pub finish_packet-requires-clause-next : goal.finish_packet-requires-clause-next
finish_packet-requires-clause-next c =
    let d = c.args.self.now in
    let locked : has_locked d ≡ true = search in
    let cut = subst (CutsInto d.order d.partial c.args.bytes.now) c.in-Ended.is c.in_ok-partial.ensures.cuts in
    record {
      locked = locked;
      some = cut.0;
      within = cut.1;
      whole = subst (λ (p : Partial). Ends d.order (Go p) (between (nibbles_in c.args.bytes.now) 0 c.in-Ended.nibbles) c.in-Ended.packet) (sym (filled d c.requires.settled)) cut.2;
      proper = subst IsProperCut c.in-Ended.is c.in_ok-partial.ensures.proper;
    }
