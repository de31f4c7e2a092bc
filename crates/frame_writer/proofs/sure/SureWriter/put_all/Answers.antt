use Rattle.std.proofs.Common.{◌≡◌, arith, ◌∙◌, ap, take}
use Rattle.arrayvec.specs.ArrayVec.{array_vec_len}
use Rattle.frame_writer.specs.Sure.{count_of, held_by, pairs_of, of_one}
use Rattle.frame_writer.proofs.Appending.{appends_none, appends_more, appends_same, appends_two}
use Rattle.frame_writer.proofs.sure.SureWriter.put_all.Goals as goal
use Rattle.frame_writer.proofs.sure.SureWriter.put_all.Goals.{else-done-bytes-via-then-done-bytes+else-append_pair, else-done-bytes-via-else-done-bytes}

pub bytes-init : goal.bytes-init
bytes-init g c = record {
  within = omega arith;
  put = appends_none c.args.self.now c.args.out.now.items;
  count = omega arith;
  load = omega arith;
  len = omega arith;
}

pub bytes-preserved-then-append_pair : goal.bytes-preserved-then-append_pair
bytes-preserved-then-append_pair g c =
    let two = c.if-append_pair.ensures in
    record {
      within = omega arith;
      put = appends_two _ c.bytes.self c.append_pair.new.self c.args.id c.args.bytes.now c.bytes.done _ c.bytes.out.items c.append_pair.new.out.items c.if-done-bytes.true
          c.bytes.invariant.put (c.append_pair.ensures.put c.if-append_pair.true);
      count = omega arith;
      load = omega arith;
      len = omega arith;
    }

pub bytes-preserved : goal.bytes-preserved
bytes-preserved g c =
    let same : (c.else-done-bytes.self ≡ c.bytes.self) × (c.else-done-bytes.out ≡ c.bytes.out) =
    elim c.else-done-bytes.branch [
      | else-done-bytes-via-then-done-bytes+else-append_pair w ↦ (w.self-is ∙ (w.append_pair.ensures.none w.if-append_pair.false).0, w.out-is ∙ (w.append_pair.ensures.none w.if-append_pair.false).1)
      | else-done-bytes-via-else-done-bytes w ↦ (w.self-is, w.out-is)
    ] in
    record {
      within = omega arith;
      put = appends_more _ c.else-done-bytes.self c.append_sure.new.self c.args.id c.args.bytes.now c.bytes.done _ c.else-done-bytes.out.items c.append_sure.new.out.items c.bytes-test.true
          (appends_same _ c.bytes.self c.else-done-bytes.self (of_one c.args.id (take c.bytes.done c.args.bytes.now)) _ c.bytes.out.items c.else-done-bytes.out.items same.0 (ap (λ o. o.items) same.1) c.bytes.invariant.put)
          c.append_sure.ensures.put;
      count = (let a = ap count_of same.0 in omega arith);
      load = (let a = ap count_of same.0 in let b = ap pairs_of same.0 in omega arith);
      len = (let a = ap count_of same.0 in let b = ap held_by same.0 in let d = ap array_vec_len same.1 in omega arith);
    }
