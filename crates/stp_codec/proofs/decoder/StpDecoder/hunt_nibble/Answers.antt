use Rattle.std.proofs.Common.{◌≡◌, ℕ, ◌+◌, ◌≤◌, List, [], ◌∷◌, ◌++◌, true, refl, sym, ◌∙◌, ap, arith}
use Rattle.stp_codec.specs.Names.{Step, StpItem, IsProperItem, Placed, Grows, Tells, Hunting, hunts, is_locked, skipped_of}
use Rattle.stp_codec.specs.Reading.{items_at}
use Rattle.stp_codec.specs.declared.decoder.StpDecoder.{StpDecoder}
use Rattle.stp_codec.specs.Decoder.{EndsItem, IsSettled, ReadsAt, has_locked, is_hunter, is_live, nibble_at, order_of, read_of, skipped_by}
use Rattle.stp_codec.specs.Nibbles.{IsHalf, TakesNibble}
use Rattle.stp_codec.proofs.Taking.{locks, skips}
use Rattle.stp_codec.proofs.decoder.StpDecoder.hunt_nibble.Goals as goal

-- what a nibble of the hunt makes of a decoder: what is said of a reading says nothing of it
hunted : {old new : StpDecoder} {at half nibble : ℕ} {answer : Step StpItem} (run skipped : ℕ) → old.mode ≡ Hunting run skipped → order_of new ≡ order_of old → is_hunter new ≡ true → IsSettled new →
    read_of new ≤ read_of old → skipped_by new ≤ skipped + 1 →
    ((n : List Placed) → ReadsAt old n → ReadsAt new (n ++ nibble_at at half nibble ∷ [])
    × Grows (items_at (order_of old) (is_hunter old) n) (items_at (order_of old) (is_hunter old) (n ++ nibble_at at half nibble ∷ [])) at answer) →
    Tells (is_live new) (skipped_by new) IsProperItem answer → EndsItem answer new.partial (has_locked new) → IsHalf half answer → TakesNibble old new at half nibble answer
hunted run skipped mode order hunter settled fewer more takes tells ends half =
    let count = ap skipped_of mode in
    record {
      same = (order, hunter ∙ sym (ap hunts mode));
      settled = settled;
      list = λ n s. (takes n s).0;
      step = λ n s. (takes n s).1;
      tells = tells;
      few = omega (arith, count, fewer, more);
      more = (omega (arith, fewer), omega (arith, count, more));
      stays = λ e. (let k = sym (ap is_locked mode) ∙ e in cc);
      grammar = λ n s e. (let k = sym (ap is_locked mode) ∙ e in cc);
      quiet = λ f e. (let k = sym (ap is_locked mode) ∙ e in cc);
      ends = ends;
      half = half;
    }

pub returns-then-ends : goal.returns-then-ends
returns-then-ends c = λ at.
    let d = c.args.self.now in
    let ends = sym c.ends.ensures.value ∙ c.if-ends.true in
    hunted c.args.run c.args.skipped c.requires.mode refl refl (c.requires.settled.0, c.first_of_none-self.ensures.none) (omega arith) (omega arith)
    (λ n s. locks d.order d.mode d.live d.partial d.attribution n (nibble_at at c.args.half c.args.nibble) c.args.run c.args.skipped c.requires.mode ends s)
    (c.requires.live, refl, tt) (refl, refl) tt

pub returns-else-ends : goal.returns-else-ends
returns-else-ends c = λ at.
    let d = c.args.self.now in
    let ends = sym c.ends.ensures.value ∙ c.if-ends.false in
    hunted c.args.run c.args.skipped c.requires.mode refl refl c.requires.settled (omega arith) (omega arith)
    (λ n s. skips d.order d.mode d.live d.partial d.attribution n (nibble_at at c.args.half c.args.nibble) c.args.run c.args.skipped c.requires.mode _ c.run_after.ensures.value ends s)
    (c.requires.live, tt, tt) tt tt
