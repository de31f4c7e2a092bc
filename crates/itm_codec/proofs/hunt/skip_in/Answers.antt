use Rattle.std.proofs.Common.{ℕ, List, arith, slice_index_or, subst, sym, take, ◌∙◌}
use Rattle.std.proofs.lemmas.List.{take_more}
use Rattle.itm_codec.specs.Hunting.{Skips}
use Rattle.itm_codec.proofs.Skipping.{skips_more}
use Rattle.itm_codec.proofs.hunt.skip_in.Goals as goal

pub loop-index-preserved : goal.loop-index-preserved
loop-index-preserved c =
    let i = c.loop-index.invariant in
    let bytes = c.args.bytes.now in
    let n = c.loop-index.index in
    let after = c.run_after-after.result in
    record {
      skips =
          subst (λ (l : List ℕ). Skips c.args.pattern c.args.run l after)
          (sym (take_more bytes n 0 c.loop-index-test.true))
          (skips_more c.args.pattern (take n bytes) c.args.run c.loop-index.after (slice_index_or bytes n 0) after
          i.skips (sym c.ends.ensures.value ∙ c.if-ends.false) (sym c.run_after-after.ensures.value));
      most = c.run_after-after.ensures.few.0;
      few = (let f = c.run_after-after.ensures.few.1 in let k = i.few in omega (arith, f, k));
    }
