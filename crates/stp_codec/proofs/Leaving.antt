-- What is left of a byte in which a packet ended.
use Rattle.std.proofs.Common.{◌≡◌, ℕ, ◌-◌, ◌*◌, ◌/◌, ◌<◌, ◌≤◌, List, ◌++◌, true, refl, sym, ◌∙◌, subst, ap, append-nil}
use Rattle.std.proofs.Common.{◌+◌, arith}
use Rattle.stp_codec.specs.declared.decoder.StpDecoder.{StpDecoder}
use Rattle.stp_codec.specs.Names.{Placed, Partial, Start, skipped_of, count_of}
use Rattle.stp_codec.specs.Reading.{items_at}
use Rattle.stp_codec.specs.Wholes.{left_by, left_of, IsQuiet}
use Rattle.stp_codec.specs.Decoder.{StandsWith, StandsAt, Begins, begun_of, held_of, skipped_by, is_hunter, is_live}
use Rattle.stp_codec.specs.Decoder.{has_locked}
use Rattle.stp_codec.proofs.Passing.{left_passed, sound_at}
use Rattle.stp_codec.proofs.Taken.{left_half, left_leaves, left_count, held_begun, from_begun, stands_as}

-- what it stands for with what is left of a byte, which gives nothing
abbrev Passed : StpDecoder → ℕ → ℕ → List Placed → ℕ → Partial → Type 0
Passed d at byte n half p =
    StandsWith d p (n ++ left_of half at byte) × IsQuiet (items_at d.order (is_hunter d) n) (items_at d.order (is_hunter d) (n ++ left_of half at byte))

passed : (d : StpDecoder) (half at byte : ℕ) → byte < 256 → half ≤ 1 → is_live d ≡ true → has_locked d ≡ true → (n : List Placed) → StandsWith d Start n → Passed d at byte n half (left_by d.order (byte / 16 * (1 - half)))
passed d half at byte small h live locked n s =
    let high : byte / 16 < 16 = omega arith in
    left_half d.order half byte small h (Passed d at byte n)
    (left_passed d.order d.mode d.live Start d.attribution n 0 at byte refl small live locked refl s (left_by d.order (byte / 16)) (left_leaves d.order (byte / 16) high))
    (subst (λ w. StandsWith d Start w × IsQuiet (items_at d.order (is_hunter d) n) (items_at d.order (is_hunter d) w)) (sym (append-nil n))
    (s, (refl, sound_at d.order d.mode d.live Start d.attribution n live s)))

-- with what is left a packet begins
module _ (d e : StpDecoder) (nibble half byte : ℕ) (b : Begins d e nibble) (is : nibble ≡ byte / 16 * (1 - half)) (small : byte < 256) (h : half ≤ 1) where
  pub left_stands : is_live d ≡ true → has_locked d ≡ true → (at : ℕ) (n : List Placed) → StandsWith d Start n → StandsAt e (n ++ left_of half at byte)
  left_stands live locked at n s =
      from_begun e b.waiting (n ++ left_of half at byte)
      (stands_as d e (left_by d.order (byte / 16 * (1 - half))) (begun_of e) b.order b.mode b.live b.attribution (b.begun ∙ ap (left_by d.order) is) (n ++ left_of half at byte)
      (passed d half at byte small h live locked n s).0)

  pub left_quiet : is_live d ≡ true → has_locked d ≡ true → (at : ℕ) (n : List Placed) → StandsWith d Start n →
      IsQuiet (items_at d.order (is_hunter d) n) (items_at d.order (is_hunter d) (n ++ left_of half at byte))
  left_quiet live locked at n s = (passed d half at byte small h live locked n s).1

  pub left_few : held_of e + skipped_by e ≤ 1 + skipped_by d
  left_few =
      let k = held_begun e b.waiting in
      let c = ap (λ (p : Partial). count_of p) b.begun in
      let f = left_count d.order nibble in
      let m = ap skipped_of b.mode in
      omega (arith, k, c, f, m)
