use Rattle.std.proofs.Common.{◌≡◌, ℕ, ◌+◌, List, [], ◌∷◌, length, take, refl, sym, ◌∙◌, ap, arith}
use Rattle.std.specs.List.{range_with_len}
use Rattle.trace_values.specs.Placed.{placed_from}
use Rattle.frame_grammar.specs.Placing.{places_of}
use Rattle.std.proofs.lemmas.List.{length-take-le}
use Rattle.frame_grammar.specs.Reading.{offsets_of}
use Rattle.frame_runs.proofs.Plainly.{plain_whole, plain_stays}
use Rattle.frame_runs.proofs.placed.place_plain.Goals as goal

-- bytes that are one behind the other
in_order : (at : ℕ) (bytes : List ℕ) → length bytes ≡ 16 →
    places_of at (0 ∷ 1 ∷ 2 ∷ 3 ∷ 4 ∷ 5 ∷ 6 ∷ 7 ∷ 8 ∷ 9 ∷ 10 ∷ 11 ∷ 12 ∷ 13 ∷ 14 ∷ 15 ∷ []) ≡ offsets_of (placed_from at bytes)
in_order at bytes long =
    sym (ap (λ (n : ℕ). offsets_of (placed_from n bytes)) (let e : at ≡ at + 0 = omega arith in e)
    ∙ order at 0 bytes ∙ ap (λ (n : ℕ). places_of at (range_with_len 0 n)) long) where
      order : (at n : ℕ) (bytes : List ℕ) → offsets_of (placed_from (at + n) bytes) ≡ places_of at (range_with_len n (length bytes))
      order at n [] = refl
      order at n (b ∷ bytes) =
          ap (λ (l : List ℕ). (at + n) ∷ l)
          (ap (λ (m : ℕ). offsets_of (placed_from m bytes)) (let e : at + n + 1 ≡ at + (n + 1) = omega arith in e) ∙ order at (n + 1) bytes)

pub returns-clause-gathered : goal.returns-clause-gathered
returns-clause-gathered c =
    let given = c.requires in
    let piece = c.args._piece.now in
    record {
      whole = plain_whole piece c.args.frame.now given.bytes given.room given.proper;
      offsets = in_order c.args.at (take 16 piece) (length-take-le 16 piece given.room)
          ∙ ap offsets_of (sym (plain_stays piece c.args.frame.now given.bytes given.room given.proper c.args.at));
    }
