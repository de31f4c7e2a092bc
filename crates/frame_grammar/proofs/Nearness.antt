-- How far behind the first byte of a frame its others are.
use Rattle.std.proofs.Common.{◌≡◌, ℕ, zero, suc, ◌+◌, ◌*◌, ◌<◌, ◌≤◌, List, [], ◌∷◌, length, take, sym, ◌∙◌, ap, arith, get_or, Bool, true, false, cond}
use Rattle.std.specs.Prelude.{◌==◌, ◌&&◌}
use Rattle.std.proofs.lemmas.List.{length-map, length-take-le, get_or-map}
use Rattle.frame_grammar.specs.Names.{byte_at, placed_from}
use Rattle.frame_grammar.specs.Placing.{BeginsPiece, places_of}
use Rattle.frame_grammar.specs.Reading.{offsets_of}
use Rattle.frame_grammar.specs.Whole.{IsWhole, without_halves}

abbrev kept : ℕ → List ℕ → List ℕ
kept at w = offsets_of (without_halves (placed_from at w))

-- each offset is among those of the bytes
offset_near : (at : ℕ) (w : List ℕ) (i : ℕ) → i < length (kept at w) → get_or (kept at w) i 0 < at + length w
offset_near at [] i l = absurd (omega arith)
offset_near at (x ∷ []) zero l = omega arith
offset_near at (x ∷ []) (suc i) l = absurd (omega arith)
offset_near at (x ∷ (y ∷ r)) i l = by (x == 255 && y == 127) i l (offset_near (at + 1 + 1) r) where
  by : (t : Bool) (i : ℕ) →
      (let rest = without_halves (placed_from (at + 1 + 1) r) in i < length (offsets_of (cond t rest (byte_at at x ∷ (byte_at (at + 1) y ∷ rest))))) →
      ((j : ℕ) → j < length (kept (at + 1 + 1) r) → get_or (kept (at + 1 + 1) r) j 0 < at + 1 + 1 + length r) →
      (let rest = without_halves (placed_from (at + 1 + 1) r) in get_or (offsets_of (cond t rest (byte_at at x ∷ (byte_at (at + 1) y ∷ rest)))) i 0 < at + suc (suc (length r)))
  by true i l later = let h = later i l in omega arith
  by false zero l later = omega arith
  by false (suc zero) l later = omega arith
  by false (suc (suc i)) l later = let h = later i (omega arith) in omega arith

behind_near : (at : ℕ) (w behind : List ℕ) → places_of at behind ≡ offsets_of (without_halves (placed_from at w)) →
    (i : ℕ) → i < length behind → get_or behind i 0 < length w
behind_near at w behind e i l =
    let many : length (places_of at behind) ≡ length behind = length-map behind (λ (b : ℕ). at + b) in
    let same : length (kept at w) ≡ length behind = ap length (sym e) ∙ many in
    let is : at + get_or behind i 0 ≡ get_or (kept at w) i 0 =
    sym (get_or-map (λ (b : ℕ). at + b) behind i 0 0 l) ∙ ap (λ (xs : List ℕ). get_or xs i 0) e in
    let h = offset_near at w i (omega arith) in
    omega arith

-- a piece begins with a frame whose bytes have these offsets
pub begins_piece : (at : ℕ) (piece frame behind : List ℕ) (halves : ℕ) → 16 + 2 * halves ≤ length piece →
    IsWhole (take (16 + 2 * halves) piece) frame halves → places_of at behind ≡ kept at (take (16 + 2 * halves) piece) →
    length behind ≡ 16 → BeginsPiece at piece frame behind halves
begins_piece at piece frame behind halves room whole offsets long = record {
  room = room;
  whole = whole;
  offsets = offsets;
  near = λ i l.
      let size = length-take-le (16 + 2 * halves) piece room in
      let h = behind_near at (take (16 + 2 * halves) piece) behind offsets i (omega arith) in
      omega (arith, size, h);
}
