use Rattle.std.proofs.Common.{◌-◌, ◌≤◌, ◌*◌, ◌/◌, ◌%◌, ℕ, List, length, take, drop, ◌≡◌, ◌≢◌, ◌∷◌}
use Rattle.std.specs.Option.{option_map}
use Rattle.frame_grammar.specs.Names.{placed_from}
use Rattle.frame_grammar.specs.Reading.{offsets_of}
use Rattle.frame_grammar.specs.Placing.{places_of}
use Rattle.frame_grammar.specs.Whole.{without_halves}
use Rattle.frame_grammar.proofs.Gathering.{gathered, joined}
use Rattle.frame_grammar.proofs.gather.gather_near.Given as goal

abbrev pub invariant-loop-words : goal.invariant-loop-words
invariant-loop-words l = record {
  room : l.from ≤ length l.piece;
  few : l.words ≤ 8;
  enough : 2 * l.words ≤ l.from;
  even : l.from % 2 ≡ 0;
  size : length l.bytes ≡ 16;
  places : length l.behind ≡ 16;
  placed : places_of l.at (take (2 * l.words) l.behind) ≡ offsets_of (without_halves (placed_from l.at (take l.from l.piece)));
  none : l.words ≡ 0 → l.from ≡ 0;
  begins : (x : ℕ) (r : List ℕ) → l.words ≢ 0 → l.piece ≡ x ∷ r → x ≢ 255;
  so_far : gathered 8 l.piece ≡ option_map (joined (l.from / 2 - l.words) (take (2 * l.words) l.bytes)) (gathered (8 - l.words) (drop l.from l.piece));
}

abbrev pub decreases-loop-words : goal.decreases-loop-words
decreases-loop-words l = length l.piece - l.from
