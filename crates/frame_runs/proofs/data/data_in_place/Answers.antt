use Rattle.std.proofs.Common.{◌≡◌, ℕ, ◌+◌, ◌*◌, ◌/◌, ◌%◌, ◌<◌, List, ◌++◌, ◌∙◌, ap}
use Rattle.std.specs.Prelude.{slice_index}
use Rattle.frame_runs.specs.Data.{first_bytes, last_bytes, late_bits, masks, moved_bytes, with_bits}
use Rattle.frame_runs.proofs.Moves.{late_few}
use Rattle.frame_runs.proofs.InPlace.{first_mended, last_mended, early, later, moves, even_data_moved, odd_data_moved, even_place_moved, odd_place_moved}
use Rattle.frame_runs.proofs.data.data_in_place.Goals as goal

-- two halves
both : (first last first_moved last_moved : List ℕ) → first ≡ first_moved → last ≡ last_moved → first ++ last ≡ first_moved ++ last_moved
both first last first_moved last_moved e f = ap (λ (x : List ℕ). x ++ last) e ∙ ap (λ (x : List ℕ). first_moved ++ x) f

-- the masks
early_is : (c : goal.After-joined-2) → c.late-early.result ≡ masks (early c.args.frame.now)
early_is c = c.late-early.ensures ∙ ap (λ (x : List ℕ). masks (late_bits x (slice_index c.args.frame.now 15 % 16))) c.first_half-front.ensures

later_is : (c : goal.After-joined-2) → c.late-later.result ≡ masks (later c.args.frame.now)
later_is c = c.late-later.ensures ∙ ap (λ (x : List ℕ). masks (late_bits x (slice_index c.args.frame.now 15 / 16 % 8))) c.last_half-back.ensures

module _ (c : goal.After-joined-2) where
  abbrev frame : List ℕ
  frame = c.args.frame.now

  abbrev behind : List ℕ
  behind = c.args.behind.now

  early_few : early frame < 16
  early_few = late_few (first_bytes frame) (slice_index frame 15 % 16)

  later_few : later frame < 16
  later_few = late_few (last_bytes frame) (slice_index frame 15 / 16 % 8)

  -- what is moved by them
  data_is : c.joined.result ≡ moves frame (first_mended frame) (last_mended frame)
  data_is =
      let p = c.with_new_bits.ensures ∙ ap (λ (x : List ℕ). with_bits x (slice_index frame 15 % 16)) c.first_half-front.ensures in
      let q = c.with_new_bits-2.ensures ∙ ap (λ (x : List ℕ). with_bits x (slice_index frame 15 / 16)) c.last_half-back.ensures in
      c.joined.ensures
      ∙ both c.moved-first.result c.moved-last.result _ _
      (c.moved-first.ensures (early frame) early_few (early_is c) ∙ ap (λ (x : List ℕ). moved_bytes x (early frame)) p)
      (c.moved-last.ensures (later frame) later_few (later_is c) ∙ ap (λ (x : List ℕ). moved_bytes x (later frame)) q)

  places_are : c.joined-2.result ≡ moves frame (first_bytes behind) (last_bytes behind)
  places_are =
      c.joined-2.ensures
      ∙ both c.moved-first_at.result c.moved-last_at.result _ _
      (c.moved-first_at.ensures (early frame) early_few (early_is c) ∙ ap (λ (x : List ℕ). moved_bytes x (early frame)) c.first_half.ensures)
      (c.moved-last_at.ensures (later frame) later_few (later_is c) ∙ ap (λ (x : List ℕ). moved_bytes x (later frame)) c.last_half.ensures)

pub returns-clause-even : goal.returns-clause-even
returns-clause-even c = λ k h. ap (λ (x : List ℕ). slice_index x (2 * k)) (data_is c) ∙ even_data_moved c.args.frame.now k h

pub returns-clause-odd : goal.returns-clause-odd
returns-clause-odd c = λ k h. ap (λ (x : List ℕ). slice_index x (2 * k + 1)) (data_is c) ∙ odd_data_moved c.args.frame.now k h

pub returns-clause-even_places : goal.returns-clause-even_places
returns-clause-even_places c =
    λ k h. ap (λ (x : List ℕ). slice_index x (2 * k)) (places_are c) ∙ even_place_moved c.args.frame.now c.args.behind.now k h

pub returns-clause-odd_places : goal.returns-clause-odd_places
returns-clause-odd_places c =
    λ k h. ap (λ (x : List ℕ). slice_index x (2 * k + 1)) (places_are c) ∙ odd_place_moved c.args.frame.now c.args.behind.now k h
