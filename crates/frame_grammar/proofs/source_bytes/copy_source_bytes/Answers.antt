use Rattle.std.proofs.Common.{◌≡◌, ℕ, ◌+◌, ◌-◌, ◌*◌, ◌/◌, ◌%◌, refl, sym, ◌∙◌, ap, arith, subst, cond, take}
use Rattle.std.specs.Prelude.{slice_index, ◌==◌}
use Rattle.frame_grammar.specs.Names.{source_id}
use Rattle.frame_grammar.specs.Frame.{aux_bit, cells_below, cells}
use Rattle.frame_grammar.specs.SourceBytes.{bytes_of_source}
use Rattle.frame_grammar.proofs.Looks.{starts}
use Rattle.frame_grammar.proofs.SourceBytes.{pair_bytes, whole_bytes, after_is, within_is}
use Rattle.frame_grammar.proofs.source_bytes.copy_source_bytes.Goals as goal

joined : (e a : ℕ) → e - e % 2 + a ≡ 2 * (e / 2) + a
joined e a = omega arith

pub loop-pair-init : goal.loop-pair-init
loop-pair-init c = record { len = omega arith; id = c.id_bits-id.ensures.id ∙ (starts c.args.frame.now c.args.before).id_is; bytes = λ at. refl }

pub loop-pair-preserved : goal.loop-pair-preserved
loop-pair-preserved c =
    let frame = c.args.frame.now in
    let before = c.args.before in
    let k = c.loop-pair.pair in
    let s = c.number-wanted.result in
    let w = c.number-wanted.ensures.value in
    let i = c.loop-pair.invariant.id in
    record {
      len = (let a = c.put_if-len.ensures.len in let b = c.put_if-len-in-loop-pair.ensures.len in let d = c.loop-pair.invariant.len in omega arith);
      id = ap source_id c.id_after_pair-after.ensures ∙ after_is frame before k c.loop-pair.id (omega arith) i;
      bytes = λ at. subst (λ (n : ℕ). take c.put_if-len-in-loop-pair.result c.put_if-len-in-loop-pair.new.into ≡ bytes_of_source n (cells_below frame at before (k + 1))) w
          (pair_bytes frame at before s c.number-wanted.ensures.in_range k c.loop-pair.id c.id_within_pair-within.result _ _ _ _ i
          (ap source_id (c.id_within_pair-within.ensures ∙ ap (λ (n : ℕ). cond (aux_bit frame k == 0) n c.loop-pair.id) c.id_after_pair-after.ensures) ∙ within_is frame before k c.loop-pair.id (omega arith) i)
          (λ t. joined (slice_index frame (2 * k)) (aux_bit frame k))
          (c.loop-pair.invariant.bytes at ∙ ap (λ (n : ℕ). bytes_of_source n (cells_below frame at before k)) (sym w))
          c.put_if-len.ensures.bytes c.put_if-len-in-loop-pair.ensures.bytes);
    }

pub returns-clause-bytes : goal.returns-clause-bytes
returns-clause-bytes c = λ at.
    let frame = c.args.frame.now in
    let before = c.args.before in
    let k = c.loop-pair.pair in
    let s = c.number-wanted.result in
    let w = c.number-wanted.ensures.value in
    subst (λ (n : ℕ). take c.put_if-len-2.result c.put_if-len-2.new.into ≡ bytes_of_source n (cells frame at before)) w
    (whole_bytes frame at before s c.number-wanted.ensures.in_range k c.loop-pair.id _ _ _ (omega arith) c.loop-pair.invariant.id
    (λ t. (let h = c.type_inv.frame in omega arith))
    (c.loop-pair.invariant.bytes at ∙ ap (λ (n : ℕ). bytes_of_source n (cells_below frame at before k)) (sym w))
    c.put_if-len-2.ensures.bytes)
