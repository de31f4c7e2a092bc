use Rattle.std.proofs.Common.{◌+◌, ◌*◌, ℕ, List, [], ◌∷◌, ◌++◌, length, take, drop, ◌≡◌, ◌-◌, ◌/◌, arith, sym, ◌∙◌, ap, refl, get_or, set}
use Rattle.std.specs.Option.{option_map}
use Rattle.std.proofs.lemmas.List.{take_rest, length-drop, length-set, map-append}
use Rattle.std.proofs.Math.Seq.{take-length}
use Rattle.frame_grammar.specs.Names.{placed_from}
use Rattle.frame_grammar.specs.Reading.{offsets_of}
use Rattle.frame_grammar.specs.Placing.{places_of}
use Rattle.frame_grammar.specs.Whole.{without_halves}
use Rattle.frame_grammar.proofs.Gathering.{joined, joined_nothing, gathered, gathers_whole, no_whole, whole_begins, pair_of, ends_short, ends_bad, ends_whole, next_word, next_half, put_word, begins_well, word_placed, half_placed}
use Rattle.frame_grammar.proofs.Nearness.{begins_piece}
use Rattle.frame_grammar.proofs.gather.gather_near.Goals as goal
use Rattle.frame_grammar.proofs.gather.gather_near.Goals.{then-first, else-first+else-words-eq0+else-second-ne127, then-words-eq0-via-then-words-eq0, then-words-eq0-via-else-words-eq0+then-second-ne127}

pub loop-words-init : goal.loop-words-init
loop-words-init c = record {
  room = omega arith;
  few = omega arith;
  enough = omega arith;
  even = refl;
  size = refl;
  places = refl;
  placed = refl;
  none = λ e. refl;
  begins = λ x r n e. absurd (n refl);
  so_far = joined_nothing (gathered 8 c.args.piece.now);
}

pub returns-in_err-first-clause-only : goal.returns-in_err-first-clause-only
returns-in_err-first-clause-only c = λ e n halves frame l whole.
    let p = c.args.piece.now in
    let from = c.loop-words.from in
    let words = c.loop-words.words in
    let room = c.loop-words.invariant.room in
    let few = c.loop-words-test.true in
    let size = ap length (take_rest p from) ∙ length-drop from p in
    let k = c.in_err-first.ensures.cases in
    no_whole p (ends_short p (drop from p) _ (8 - words) (7 - words) _ c.loop-words.invariant.so_far (omega arith) (let d = length-drop from p in omega arith)) n halves frame whole

pub returns-then-words-eq0-clause-only : goal.returns-then-words-eq0-clause-only
returns-then-words-eq0-clause-only c = λ e n halves frame l whole.
    let p = c.args.piece.now in
    let from = c.loop-words.from in
    let words = c.loop-words.words in
    let few = c.loop-words-test.true in
    let chunk = c.in_ok-first.field-0.now in
    let pair = pair_of p chunk from c.in_ok-first.ensures.cases in
    elim c.then-words-eq0.branch [
      | then-words-eq0-via-then-words-eq0 w ↦
          whole_begins p n halves frame whole (get_or chunk 0 0) (get_or chunk 1 0 ∷ drop (from + 2) p)
          (ap (λ (m : ℕ). drop m p) (sym (c.loop-words.invariant.none w.if-words-eq0.true)) ∙ pair.parts) c.if-first.false
      | then-words-eq0-via-else-words-eq0+then-second-ne127 w ↦
          no_whole p (ends_bad p (drop from p) _ (8 - words) (7 - words) _ c.loop-words.invariant.so_far (omega arith) (get_or chunk 0 0) (get_or chunk 1 0) (drop (from + 2) p)
          pair.parts c.if-first.false w.if-second-ne127.true) n halves frame whole
    ]

pub loop-words-preserved : goal.loop-words-preserved
loop-words-preserved c =
    let p = c.args.piece.now in
    let from = c.loop-words.from in
    let words = c.loop-words.words in
    let bytes = c.loop-words.bytes in
    let i = c.loop-words.invariant in
    let chunk = c.in_ok-first.field-0.now in
    let pair = pair_of p chunk from c.in_ok-first.ensures.cases in
    elim c.if-first.branch [
      | then-first w ↦ (
          let n : c.if-first.words ≡ words + 1 = w.words-is in
          let b : c.if-first.bytes ≡ set (set bytes (2 * words) (get_or chunk 0 0)) (2 * words + 1) (get_or chunk 1 0) = w.bytes-is in
          let behind = c.loop-words.behind in
          let o : c.if-first.behind ≡ set (set behind (2 * words) from) (2 * words + 1) (from + 1) = w.behind-is in
          let places = i.places in
          let t : take (2 * c.if-first.words) c.if-first.bytes ≡ take (2 * words) bytes ++ (get_or chunk 0 0 ∷ (get_or chunk 1 0 ∷ [])) =
          ap (take (2 * c.if-first.words)) b ∙ put_word bytes (2 * words) (2 * c.if-first.words) (get_or chunk 0 0) (get_or chunk 1 0) (omega arith) (omega arith) in
          record {
            room = pair.room;
            few = omega arith;
            enough = omega arith;
            even = omega arith;
            size = ap length b ∙ length-set (set bytes (2 * words) (get_or chunk 0 0)) (2 * words + 1) (get_or chunk 1 0) ∙ length-set bytes (2 * words) (get_or chunk 0 0) ∙ i.size;
            places = ap length o ∙ length-set (set behind (2 * words) from) (2 * words + 1) (from + 1) ∙ length-set behind (2 * words) from ∙ i.places;
            placed =
                ap (places_of c.args.at) (ap (take (2 * c.if-first.words)) o ∙ put_word behind (2 * words) (2 * c.if-first.words) from (from + 1) (omega arith) (omega arith))
                ∙ map-append (λ (b : ℕ). c.args.at + b) (take (2 * words) behind) (from ∷ ((from + 1) ∷ []))
                ∙ ap (λ (m : ℕ). places_of c.args.at (take (2 * words) behind) ++ ((c.args.at + from) ∷ (m ∷ []))) (let d : c.args.at + (from + 1) ≡ c.args.at + from + 1 = omega arith in d)
                ∙ ap (λ (l : List ℕ). l ++ ((c.args.at + from) ∷ ((c.args.at + from + 1) ∷ []))) i.placed
                ∙ sym (word_placed c.args.at from (get_or chunk 0 0) (get_or chunk 1 0) p (drop (from + 2) p) pair.parts pair.room i.even w.if-first.true);
            none = λ e. absurd (omega arith);
            begins = λ x r m e. begins_well words from (get_or chunk 0 0) p (get_or chunk 1 0 ∷ drop (from + 2) p) i.none i.begins pair.parts w.if-first.true x r e;
            so_far = next_word p (drop from p) (take (2 * words) bytes) (8 - words) (8 - c.if-first.words) (from / 2 - words) i.so_far (omega arith)
                (get_or chunk 0 0) (get_or chunk 1 0) ((from + 2) / 2 - c.if-first.words) (drop (from + 2) p) (take (2 * c.if-first.words) c.if-first.bytes)
                pair.parts w.if-first.true (omega arith) t;
          }
          )
      | else-first+else-words-eq0+else-second-ne127 w ↦ (
          let n : c.if-first.words ≡ words = w.words-is in
          let b : c.if-first.bytes ≡ bytes = w.bytes-is in
          let some = w.if-words-eq0.false in
          record {
            room = pair.room;
            few = omega arith;
            enough = omega arith;
            even = omega arith;
            size = ap length b ∙ i.size;
            places = ap length w.behind-is ∙ i.places;
            placed =
                ap (places_of c.args.at) (ap (λ (m : ℕ). take (2 * m) c.if-first.behind) n ∙ ap (take (2 * words)) w.behind-is) ∙ i.placed
                ∙ sym (half_placed c.args.at from (get_or chunk 0 0) (get_or chunk 1 0) p (drop (from + 2) p) pair.parts pair.room i.even w.if-first.false w.if-second-ne127.false);
            none = λ e. absurd (omega arith);
            begins = λ x r m e. i.begins x r some e;
            so_far =
                next_half p (drop from p) (take (2 * words) bytes) (8 - words) (7 - words) (from / 2 - words) i.so_far (omega arith)
                (get_or chunk 0 0) (get_or chunk 1 0) ((from + 2) / 2 - words) (drop (from + 2) p) pair.parts w.if-first.false w.if-second-ne127.false (omega arith)
                ∙ ap (λ (m : ℕ). option_map (joined ((from + 2) / 2 - m) (take (2 * m) bytes)) (gathered (8 - m) (drop (from + 2) p))) (sym n)
                ∙ ap (λ (l : List ℕ). option_map (joined ((from + 2) / 2 - c.if-first.words) (take (2 * c.if-first.words) l)) (gathered (8 - c.if-first.words) (drop (from + 2) p))) (sym b);
          }
          )
    ]

pub returns-clause-front : goal.returns-clause-front
returns-clause-front c =
    let p = c.args.piece.now in
    let bytes = c.loop-words.bytes in
    let i = c.loop-words.invariant in
    let words : c.loop-words.words ≡ 8 = omega arith in
    let frame : take (2 * c.loop-words.words) bytes ≡ bytes =
    ap (λ (n : ℕ). take n bytes) (let d : 2 * c.loop-words.words ≡ length bytes = (let s = i.size in omega arith) in d) ∙ take-length bytes in
    let from : c.loop-words.from ≡ 16 + 2 * (c.loop-words.from / 2 - 8) = omega arith in
    begins_piece c.args.at p bytes c.loop-words.behind (c.loop-words.from / 2 - 8) (let r = i.room in omega (arith, r, from))
    (gathers_whole p (record { halves = c.loop-words.from / 2 - 8; frame = bytes; rest = drop c.loop-words.from p })
    (λ x l e. i.begins x l (λ z. absurd (omega arith)) e)
    (ends_whole p (drop c.loop-words.from p) bytes (8 - c.loop-words.words) (c.loop-words.from / 2 - c.loop-words.words) (c.loop-words.from / 2 - 8)
    (i.so_far ∙ ap (λ (t : List ℕ). option_map (joined (c.loop-words.from / 2 - c.loop-words.words) t) (gathered (8 - c.loop-words.words) (drop c.loop-words.from p))) frame)
    (omega arith) (omega arith))).1
    (ap (places_of c.args.at) (sym (take-length c.loop-words.behind) ∙ ap (λ (n : ℕ). take n c.loop-words.behind) (let d : length c.loop-words.behind ≡ 2 * c.loop-words.words = omega arith in d))
    ∙ i.placed ∙ ap (λ (n : ℕ). offsets_of (without_halves (placed_from c.args.at (take n p)))) from)
    i.places
