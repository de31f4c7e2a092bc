use Rattle.std.proofs.Common.{ℕ, ◌∙◌, replicate, refl, sym, ap, arith}
use Rattle.std.proofs.lemmas.List.{length-replicate}
use Rattle.itm_codec.specs.Names.{Within, Header}
use Rattle.itm_grammar.proofs.Deciding.{counted_bytes}
use Rattle.itm_codec.specs.Decoder.{partial_of}
use Rattle.itm_codec.proofs.Syncs.{more_zeros, sync_ends}
use Rattle.itm_codec.proofs.decoder.ItmDecoder.take_zeros.Goals as goal

pub overflow_add-zeros : goal.overflow_add-zeros
overflow_add-zeros c =
    let n = counted_bytes Header (partial_of c.args.self.now) (replicate c.args.taken 0) c.requires.zeros in
    let l = length-replicate {A = ℕ} c.args.taken 0 in
    let room = c.requires.room in
    let few = c.zeros_in-more.ensures.0 in
    omega (arith, n, l, room, few)

pub returns-then-more-gt0 : goal.returns-then-more-gt0
returns-then-more-gt0 c =
    let d = c.args.self.now in
    let z = c.zeros_in-more.ensures in
    record {
      mode = c.keep.ensures.same.0;
      live = c.keep.ensures.same.1;
      part = (
        c.requires.locked,
        c.if-more-gt0.true,
        z.0,
        refl,
        more_zeros (partial_of d) c.args.taken c.zeros_in-more.result c.args.bytes.now c.requires.zeros z.1 c.if-more-gt0.true ∙ ap Within (sym c.keep.ensures.part),
      );
    }

pub returns-then-zeros-ge5 : goal.returns-then-zeros-ge5
returns-then-zeros-ge5 c =
    let d = c.args.self.now in
    let z = c.zeros_in-more.ensures in
    let k = c.keep-then-zeros-ge5.ensures in
    let l = c.if-more-bytes-2.true in
    record {
      mode = k.same.0;
      live = k.same.1;
      part = (
        c.requires.locked,
        omega arith,
        omega (arith, l),
        refl,
        (
          sync_ends (partial_of d) c.args.taken c.zeros_in-more.result c.args.bytes.now c.requires.zeros z.1 l c.if-bytes-more.true c.if-zeros-ge5.true,
          k.part,
          tt,
        ),
      );
    }
