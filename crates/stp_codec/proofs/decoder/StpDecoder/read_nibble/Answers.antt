use Rattle.std.proofs.Common.{◌≡◌, ℕ, ◌+◌, ◌≤◌, List, [], ◌∷◌, ◌++◌, Some, None, true, refl, sym, ◌∙◌, ap, arith}
use Rattle.stp_codec.specs.Names.{rule, Step, Quiet, Start, StpItem, IsProperItem, Placed, Grows, Tells, hunts, is_locked, skipped_of}
use Rattle.stp_codec.specs.Answers.{AnswersNibble}
use Rattle.stp_codec.specs.Reading.{items_at, packets_of, rest_in}
use Rattle.stp_grammar.proofs.Beginning.{start_ends, start_never_fails}
use Rattle.stp_grammar.proofs.Counting.{counts}
use Rattle.stp_codec.specs.declared.decoder.StpDecoder.{StpDecoder}
use Rattle.stp_codec.specs.Decoder.{EndsItem, IsSettled, ReadsAt, has_locked, is_hunter, is_live, nibble_at, order_of, read_of, skipped_by}
use Rattle.stp_codec.specs.Nibbles.{IsHalf, TakesNibble}
use Rattle.stp_codec.proofs.Answering.{goes_answer, ends_answer, fails_answer}
use Rattle.stp_codec.proofs.decoder.StpDecoder.read_nibble.Goals as goal

-- what a nibble of the reading makes of a decoder, which stays in its mode
reads : {old new : StpDecoder} {at half nibble : ℕ} {answer : Step StpItem} → order_of new ≡ order_of old → new.mode ≡ old.mode → has_locked old ≡ true → IsSettled new → read_of new ≤ read_of old + 1 →
    ((n : List Placed) → ReadsAt old n → ReadsAt new (n ++ nibble_at at half nibble ∷ [])
    × Grows (items_at (order_of old) (is_hunter old) n) (items_at (order_of old) (is_hunter old) (n ++ nibble_at at half nibble ∷ [])) at answer
    × AnswersNibble (order_of old) (packets_of (order_of old) (is_hunter old) n) (rest_in (order_of old) (is_hunter old) n ++ nibble_at at half nibble ∷ []) (nibble_at at half nibble).place answer
    (packets_of (order_of old) (is_hunter old) (n ++ nibble_at at half nibble ∷ [])) (rest_in (order_of old) (is_hunter old) (n ++ nibble_at at half nibble ∷ []))) →
    Tells (is_live new) (skipped_by new) IsProperItem answer → (old.partial ≡ Start → answer ≡ Quiet) → EndsItem answer new.partial (has_locked new) → IsHalf half answer →
    TakesNibble old new at half nibble answer
reads order mode locked settled few answers tells quiet ends half =
    let skipped = ap skipped_of mode in
    record {
      same = (order, ap hunts mode);
      settled = settled;
      list = λ n s. (answers n s).0;
      step = λ n s. (answers n s).1;
      tells = tells;
      few = omega (arith, skipped, few);
      more = (few, omega (arith, skipped));
      stays = λ e. (ap is_locked mode ∙ e, skipped);
      grammar = λ n s e. (answers n s).2;
      quiet = λ e f. quiet e;
      ends = ends;
      half = half;
    }

pub returns-in-Go : goal.returns-in-Go
returns-in-Go c =
    let d = c.args.self.now in
    let k = counts d.order d.partial c.in-Go.partial c.args.nibble (sym c.in-Go.ensures.next) in
    reads refl refl c.requires.locked (c.requires.settled.0, refl) (omega (arith, k))
    (λ n s. goes_answer d.order d.mode d.live d.partial d.attribution n (nibble_at c.args.at c.args.half c.args.nibble) c.requires.live c.requires.locked s c.in-Go.partial c.in-Go.ensures.next)
    (c.requires.live, tt, tt) (λ e. refl) tt tt

pub returns-in-Some : goal.returns-in-Some
returns-in-Some c =
    let d = c.args.self.now in
    let v = c.in-End.packet in
    reads refl refl c.requires.locked (c.requires.settled.0, c.first_of_none-self.ensures.none) (omega arith)
    (λ n s. ends_answer d.order d.mode d.live d.partial d.attribution n (nibble_at c.args.at c.args.half c.args.nibble) c.requires.live c.requires.locked s v _ c.in-End.ensures.next c.in-Some.ensures.list (Some c.in-Some.item) c.in-Some.ensures.item)
    (c.requires.live, tt, c.in-Some.ensures.fits c.in-Some.item refl)
    (λ e. (let n = c.in-Some.ensures.silent (start_ends d.order v c.args.nibble (c.in-End.ensures.next ∙ ap (λ z. rule d.order z c.args.nibble) e)) in cc))
    (refl, c.requires.locked) tt

pub returns-in-None : goal.returns-in-None
returns-in-None c =
    let d = c.args.self.now in
    reads refl refl c.requires.locked (c.requires.settled.0, c.first_of_none-self.ensures.none) (omega arith)
    (λ n s. ends_answer d.order d.mode d.live d.partial d.attribution n (nibble_at c.args.at c.args.half c.args.nibble) c.requires.live c.requires.locked s c.in-End.packet _ c.in-End.ensures.next c.in-None.ensures.list None c.in-None.ensures.item)
    (c.requires.live, tt, tt) (λ e. refl) tt tt

pub returns-in-Fail : goal.returns-in-Fail
returns-in-Fail c =
    let d = c.args.self.now in
    reads refl refl c.requires.locked c.requires.settled (omega arith)
    (λ n s. fails_answer d.order d.mode d.live d.partial d.attribution n (nibble_at c.args.at c.args.half c.args.nibble) c.requires.live c.requires.locked s c.in-Fail.reason c.in-Fail.ensures.next)
    (refl, tt, tt)
    (λ e. absurd (start_never_fails d.order c.in-Fail.reason c.args.nibble c.requires.nibble (c.in-Fail.ensures.next ∙ ap (λ z. rule d.order z c.args.nibble) e)))
    tt refl
