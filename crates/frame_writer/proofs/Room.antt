-- How much a writer could still append, and how many frames it has appended.
use Rattle.std.proofs.Common.{◌≡◌, ℕ, zero, suc, ◌+◌, ◌-◌, ◌*◌, ◌<◌, ◌≤◌, List, [], ◌∷◌, ◌++◌, refl, sym, ◌∙◌, ap, arith, subst, Bool, true, false, cond, Option, None, Some, append-nil, length, length-append}
use Rattle.std.specs.Prelude.{nat_lt, ◌&&◌}
use Rattle.std.specs.List.{concat}
use Rattle.std.proofs.lemmas.Bool.Decides.{nat_tests}
use Rattle.std.proofs.lemmas.List.{nil_from_length}
use Rattle.frame_grammar.specs.Port.{half_spelling}
use Rattle.frame_writer.specs.declared.pair.Pair.{Pair}
use Rattle.frame_writer.specs.declared.writer.FrameWriter.{FrameWriter}
use Rattle.frame_writer.specs.Written.{Tagged, Later, none_later, filled, spread, aux_byte, sync, is_due, known, frame_bytes, frames_by, frames_from, joined, segments_then}
use Rattle.frame_writer.specs.Unfinished.{middle, continued, is_sound}
use Rattle.frame_writer.specs.Writer.{to_come, appended, Stands}
use Rattle.frame_writer.proofs.Frames.{filled_fewer, filled_less, by_nothing, by_some, opens, nothing}
use Rattle.frame_writer.proofs.Law.{filled_length}
use Rattle.frame_writer.proofs.Standing.{frames_now}

pub no_frames : (every halves : ℕ) (later : Later) (n : ℕ) (c : Option ℕ) (t : List Tagged) → frames_by every halves later zero n c t ≡ later n c
unfolding frames_by
no_frames every halves later n c t = refl

-- each frame takes a byte
few_frames : (every halves : ℕ) (later : Later) (few : ℕ) → ((n : ℕ) (c : Option ℕ) → length (later n c) ≤ few) →
    (k n : ℕ) (c : Option ℕ) (t : List Tagged) → length (frames_by every halves later k n c t) ≤ k + few
few_frames every halves later few h k n c [] = let e = ap length (by_nothing every halves later k n c) in let m = h n c in omega arith
few_frames every halves later few h zero n c (x ∷ t) = let e = ap length (no_frames every halves later n c (x ∷ t)) in let m = h n c in omega arith
few_frames every halves later few h (suc k) n c (x ∷ t) =
    let f = filled 7 (known every n c) (x ∷ t) in
    let e = ap length (by_some every halves later k n c x t) in
    let m = few_frames every halves later few h k (n + 1) f.end.id f.end.rest in omega arith

few_segments : (every halves : ℕ) (segments : List (List Tagged)) (n : ℕ) (c : Option ℕ) → length (segments_then every halves none_later segments n c) ≤ length (joined segments)
few_segments every halves [] n c = omega arith
few_segments every halves (t ∷ segments) n c =
    let m = few_frames every halves (λ n c. segments_then every halves none_later segments n c) (length (joined segments)) (λ n c. few_segments every halves segments n c) (length t) n c t in
    let a = length-append t (joined segments) in omega arith

joined_more : (closed : List (List Tagged)) (t : List Tagged) → length (joined (closed ++ t ∷ [])) ≡ length (joined closed) + length t
joined_more [] t = let e = ap length (append-nil t) in omega arith
joined_more (s ∷ closed) t =
    let a = length-append s (joined (closed ++ t ∷ [])) in
    let b = length-append s (joined closed) in
    let k = joined_more closed t in omega arith

pub appended_few : (w : FrameWriter) (every halves : ℕ) (closed : List (List Tagged)) (t : List Tagged) (so_far : List ℕ) → Stands w every halves closed t so_far → appended w ≤ length (joined closed) + length t
appended_few w every halves closed t so_far s =
    let few = few_segments every halves (closed ++ t ∷ []) 0 None in
    let a = ap length (frames_now w every halves closed t so_far s) in
    let b = length-append s.done (to_come w [] []) in
    let e = joined_more closed t in
    let k = s.count in omega arith

-- the bytes of a frame
half_bytes : (n : ℕ) → length (half_spelling n) ≡ 2 * n
half_bytes zero = refl
half_bytes (suc n) = let k = half_bytes n in omega arith

spread_bytes : (halves : ℕ) (pairs : List Pair) → halves ≤ 8 → length (spread halves pairs) ≤ 18 * length pairs
spread_bytes halves [] h = omega arith
spread_bytes halves (p ∷ pairs) h =
    let a = length-append (half_spelling halves) (spread halves pairs) in
    let b = half_bytes halves in
    let k = spread_bytes halves pairs h in omega arith

sync_bytes : (b : Bool) → length (cond {A = List ℕ} b (255 ∷ (255 ∷ (255 ∷ (127 ∷ [])))) []) ≤ 4
sync_bytes true = omega arith
sync_bytes false = omega arith

pub frame_size : (every halves n : ℕ) (pairs : List Pair) (even : ℕ) (last : Bool) → halves ≤ 8 → length pairs ≤ 7 → length (frame_bytes every halves n pairs even last) ≤ 132
unfolding frame_bytes
frame_size every halves n pairs even last h k =
    let a = length-append (sync every n) (spread halves pairs ++ (even ∷ (aux_byte pairs last ∷ []))) in
    let b = length-append (spread halves pairs) (even ∷ (aux_byte pairs last ∷ [])) in
    let c = sync_bytes (is_due every n) in
    let d = spread_bytes halves pairs h in omega arith

-- no frame, or one
abbrev IsShort : List (List ℕ) → Type 0
IsShort [] = Unit {0}
IsShort (f ∷ fs) = (length f ≤ 132) × (fs ≡ [])

short_bytes : (fs : List (List ℕ)) → IsShort fs → length (concat fs) ≤ 132
short_bytes [] s = omega arith
short_bytes (f ∷ fs) s = let e : concat (f ∷ fs) ≡ f = ap (λ (l : List (List ℕ)). concat (f ∷ l)) s.1 ∙ append-nil f in let k = ap length e in let l = s.0 in omega arith

module _ (every halves n : ℕ) (few : halves ≤ 8) where
  middle_short : (pairs : List Pair) (c : Option ℕ) (t : List Tagged) → length pairs ≤ 7 → length (filled (7 - length pairs) c t).end.rest ≤ 0 → IsShort (middle every halves none_later n pairs c t)
  middle_short pairs c t h k =
      let f = filled (7 - length pairs) c t in
      let a = length-append pairs f.pairs in
      let b = filled_length (7 - length pairs) c t in (
        frame_size every halves n (pairs ++ f.pairs) f.end.even f.end.aux few (omega arith),
        ap (λ (l : List Tagged). frames_from every halves none_later (n + 1) f.end.id l) (nil_from_length f.end.rest (omega (arith, k))) ∙ nothing every halves none_later (n + 1) f.end.id,
      )

  first_short : (c : Option ℕ) (x : Tagged) → IsShort (frames_from every halves none_later n c (x ∷ []))
  first_short c x = subst IsShort (sym (opens every halves none_later n c x [])) (middle_short [] (known every n c) (x ∷ []) (omega arith) (filled_less 6 (known every n c) x []))

  room_in_pairs : (pairs : List Pair) (i b : ℕ) → is_sound every n pairs (Some i) (Some b) ≡ true → length pairs < 7
  room_in_pairs pairs i b e = tests (length pairs) (nat_lt 0 i) _ e where
    tests : (l : ℕ) (a d : Bool) → ((a && nat_lt l 7) && d) ≡ true → l < 7
    tests l a d e = grind (arith, nat_tests)

  begun_short : (p : Pair) (pairs : List Pair) (c : Option ℕ) (held : Option ℕ) → length (p ∷ pairs) ≤ 7 → is_sound every n (p ∷ pairs) c held ≡ true → IsShort (continued every halves none_later n (p ∷ pairs) c held [])
  begun_short p pairs c None h e = middle_short (p ∷ pairs) c [] h (filled_fewer (7 - length (p ∷ pairs)) c [])
  begun_short p pairs None (Some b) h e = middle_short (p ∷ pairs) None [] h (filled_fewer (7 - length (p ∷ pairs)) None [])
  begun_short p pairs (Some i) (Some b) h e =
      let x : Tagged = record { id = i; byte = b } in
      let l = room_in_pairs (p ∷ pairs) i b e in
      let m : 7 - length (p ∷ pairs) ≡ suc (6 - length (p ∷ pairs)) = omega arith in
      middle_short (p ∷ pairs) (Some i) (x ∷ []) h (subst (λ (r : ℕ). length (filled r (Some i) (x ∷ [])).end.rest ≤ 0) (sym m) (filled_less (6 - length (p ∷ pairs)) (Some i) x []))

  short : (pairs : List Pair) (c held : Option ℕ) → length pairs ≤ 7 → is_sound every n pairs c held ≡ true → IsShort (continued every halves none_later n pairs c held [])
  short [] c None h e = subst IsShort (sym (nothing every halves none_later n c)) tt
  short [] None (Some b) h e = subst IsShort (sym (nothing every halves none_later n None)) tt
  short [] (Some i) (Some b) h e = first_short (Some i) (record { id = i; byte = b })
  short (p ∷ pairs) c held h e = begun_short p pairs c held h e

pub little_to_come : (w : FrameWriter) → length (concat (to_come w [] [])) ≤ 132
little_to_come w = short_bytes (to_come w [] []) (short w.every w.halves w.frames w.few w.pairs.items w.id w.held w.fits w.sound)
