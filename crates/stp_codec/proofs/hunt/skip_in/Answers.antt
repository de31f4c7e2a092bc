use Rattle.std.proofs.Common.{ℕ, List, [], ◌∷◌, arith, slice_index_or, subst, sym, ap, take, ◌∙◌}
use Rattle.std.proofs.lemmas.List.{take_more}
use Rattle.stp_codec.specs.Hunting.{Skips}
use Rattle.stp_codec.specs.Wholes.{nibbles_in}
use Rattle.stp_codec.proofs.Unread.{nibbles_append}
use Rattle.stp_codec.proofs.Skipping.{skips_on}
use Rattle.stp_codec.proofs.hunt.skip_in.Goals as goal

pub loop-index-preserved : goal.loop-index-preserved
loop-index-preserved c =
    let i = c.loop-index.invariant in
    let bytes = c.args.bytes.now in
    let n = c.loop-index.index in
    let b = slice_index_or bytes n 0 in
    let next = c.in-Some.next in
    record {
      skips =
          subst (λ (l : List ℕ). Skips c.args.run l next)
          (sym (ap nibbles_in (take_more bytes n 0 c.loop-index-test.true) ∙ nibbles_append (take n bytes) (b ∷ [])))
          (skips_on (nibbles_in (take n bytes)) (nibbles_in (b ∷ [])) c.args.run c.loop-index.after next i.skips
          c.in-Some.ensures.skips);
      most = c.in-Some.ensures.few.0;
      few = (let f = c.in-Some.ensures.few.1 in let k = i.few in omega (arith, f, k));
    }
