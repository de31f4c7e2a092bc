-- The writer stands for the bytes put, by the frames still to come.
use Rattle.std.proofs.Common.{◌≡◌, ℕ, ◌+◌, Bool, List, [], ◌∷◌, ◌++◌, refl, sym, ◌∙◌, ap, arith, subst, append_assoc, append-nil, length, length-append}
use Rattle.std.specs.List.{concat}
use Rattle.std.proofs.lemmas.List.Folds.{concat-append}
use Rattle.frame_writer.specs.declared.pair.Pair.{Pair}
use Rattle.frame_writer.specs.declared.writer.FrameWriter.{FrameWriter}
use Rattle.frame_writer.specs.Written.{Tagged, segment_frames, written_segments, frame_bytes, sync, spread, aux_byte}
use Rattle.frame_writer.specs.Writer.{to_come, appended, as_frame, Stands}

one_frame : (a b l : List ℕ) (x : ℕ) → as_frame (a ++ (b ++ (x ∷ l))) ≡ (a ++ (b ++ (x ∷ l))) ∷ []
one_frame [] [] l x = refl
one_frame [] (y ∷ b) l x = refl
one_frame (z ∷ a) b l x = refl

-- a frame has bytes
pub frame_as : (every halves n : ℕ) (pairs : List Pair) (even : ℕ) (aux : Bool) (out : List ℕ) → out ≡ frame_bytes every halves n pairs even aux → as_frame out ≡ out ∷ []
unfolding frame_bytes
frame_as every halves n pairs even aux out e =
    subst (λ (l : List ℕ). as_frame l ≡ l ∷ []) (sym e) (one_frame (sync every n) (spread halves pairs) (aux_byte pairs aux ∷ []) even)

pub nothing_as : (out : List ℕ) → out ≡ [] → as_frame out ≡ []
nothing_as out e = ap as_frame e

module _ (every halves n : ℕ) (pairs : List Pair) (aux : Bool) (out : List ℕ) where
  -- the bytes as the code spells byte 14
  pub respelled : (even other : ℕ) → out ≡ frame_bytes every halves n pairs other aux → other ≡ even → out ≡ frame_bytes every halves n pairs even aux
  respelled even other e f = e ∙ ap (λ (x : ℕ). frame_bytes every halves n pairs x aux) f

  pub then_others : (even : ℕ) (whole later : List (List ℕ)) → out ≡ frame_bytes every halves n pairs even aux → whole ≡ out ∷ later → whole ≡ as_frame out ++ later
  then_others even whole later e f = f ∙ ap (λ (l : List (List ℕ)). l ++ later) (sym (frame_as every halves n pairs even aux out e))

  pub one_more : (even m : ℕ) → out ≡ frame_bytes every halves n pairs even aux → m + 1 ≡ m + length (as_frame out)
  one_more even m e = ap (λ (l : List (List ℕ)). m + length l) (sym (frame_as every halves n pairs even aux out e))

pub nothing_before : (out : List ℕ) (x y : List (List ℕ)) → out ≡ [] → x ≡ y → x ≡ as_frame out ++ y
nothing_before out x y e f = f ∙ ap (λ (l : List ℕ). as_frame l ++ y) (sym e)

pub none_more : (out : List ℕ) (m : ℕ) → out ≡ [] → m ≡ m + length (as_frame out)
none_more out m e = (let k : m ≡ m + 0 = omega arith in k) ∙ ap (λ (l : List ℕ). m + length (as_frame l)) (sym e)

pub as_bytes : (out : List ℕ) → out ≡ concat (as_frame out)
as_bytes [] = refl
as_bytes (b ∷ out) = sym (append-nil (b ∷ out))

-- the same of segments that go on from others, where one frame at most was completed
stands_on : (v : FrameWriter) (every halves : ℕ) (closed : List (List Tagged)) (t : List Tagged) (out so_far : List ℕ)
    (done : List (List ℕ)) (count : ℕ) → so_far ≡ concat done → count ≡ length done →
    appended v ≡ count + length (as_frame out) →
    ((u : List Tagged) (later : List (List Tagged)) → segment_frames every halves (closed ++ ((t ++ u) ∷ later))
    ≡ done ++ (as_frame out ++ to_come v u later)) →
    Stands v every halves closed t (so_far ++ out)
stands_on v every halves closed t out so_far done count b e q p = record {
  done = done ++ as_frame out;
  bytes = ap (λ (l : List ℕ). l ++ out) b ∙ ap (λ (l : List ℕ). concat done ++ l) (as_bytes out)
      ∙ sym (concat-append done (as_frame out));
  count = q ∙ ap (λ (n : ℕ). n + length (as_frame out)) e ∙ sym (length-append done (as_frame out));
  completes = λ u later. (p u later ∙ sym (append_assoc done (as_frame out) (to_come v u later)));
}

module _ (w v : FrameWriter) (every halves : ℕ) (closed : List (List Tagged)) where
  -- after more bytes were put
  pub stands_puts : (xs : List Tagged) (out so_far : List ℕ) (t : List Tagged) →
      ((u : List Tagged) (later : List (List Tagged)) → to_come w (xs ++ u) later ≡ as_frame out ++ to_come v u later) →
      appended v ≡ appended w + length (as_frame out) →
      Stands w every halves closed t so_far → Stands v every halves closed (t ++ xs) (so_far ++ out)
  stands_puts xs out so_far t p q s =
      stands_on v every halves closed (t ++ xs) out so_far s.done (appended w) s.bytes s.count q
      (λ u later. ap (λ (l : List Tagged). segment_frames every halves (closed ++ (l ∷ later))) (append_assoc t xs u)
      ∙ s.completes (xs ++ u) later ∙ ap (λ (l : List (List ℕ)). s.done ++ l) (p u later))

  pub stands_put : (x : Tagged) (out so_far : List ℕ) (t : List Tagged) →
      ((u : List Tagged) (later : List (List Tagged)) → to_come w (x ∷ u) later ≡ as_frame out ++ to_come v u later) → appended v ≡ appended w + length (as_frame out) →
      Stands w every halves closed t so_far → Stands v every halves closed (t ++ x ∷ []) (so_far ++ out)
  stands_put x out so_far t p q s = stands_puts (x ∷ []) out so_far t p q s

  -- and after the segment was ended
  pub stands_flush : (out so_far : List ℕ) (t : List Tagged) →
      ((u : List Tagged) (later : List (List Tagged)) → to_come w [] (u ∷ later) ≡ as_frame out ++ to_come v u later) →
      appended v ≡ appended w + length (as_frame out) →
      Stands w every halves closed t so_far → Stands v every halves (closed ++ t ∷ []) [] (so_far ++ out)
  stands_flush out so_far t p q s =
      stands_on v every halves (closed ++ t ∷ []) [] out so_far s.done (appended w) s.bytes s.count q
      (λ u later. ap (segment_frames every halves) (append_assoc closed (t ∷ []) (u ∷ later))
      ∙ ap (λ (l : List Tagged). segment_frames every halves (closed ++ (l ∷ (u ∷ later)))) (sym (append-nil t))
      ∙ s.completes [] (u ∷ later) ∙ ap (λ (l : List (List ℕ)). s.done ++ l) (p u later))

module _ (w : FrameWriter) (every halves : ℕ) (closed : List (List Tagged)) where
  -- what is written so far, and what is still to come
  pub stands_front : (t u : List Tagged) (later : List (List Tagged)) (so_far : List ℕ) → Stands w every halves closed t so_far →
      written_segments every halves (closed ++ ((t ++ u) ∷ later)) ≡ so_far ++ concat (to_come w u later)
  stands_front t u later so_far s =
      ap concat (s.completes u later) ∙ concat-append s.done (to_come w u later) ∙ ap (λ (l : List ℕ). l ++ concat (to_come w u later)) (sym s.bytes)

  pub frames_now : (t : List Tagged) (so_far : List ℕ) (s : Stands w every halves closed t so_far) → segment_frames every halves (closed ++ t ∷ []) ≡ s.done ++ to_come w [] []
  frames_now t so_far s = ap (λ (l : List Tagged). segment_frames every halves (closed ++ l ∷ [])) (sym (append-nil t)) ∙ s.completes [] []

  pub stands_now : (t : List Tagged) (so_far : List ℕ) → Stands w every halves closed t so_far →
      written_segments every halves (closed ++ t ∷ []) ≡ so_far ++ concat (to_come w [] [])
  stands_now t so_far s = ap (λ (l : List Tagged). written_segments every halves (closed ++ l ∷ [])) (sym (append-nil t)) ∙ stands_front t [] [] so_far s

  pub finished : (t : List Tagged) (so_far out : List ℕ) → as_frame out ≡ to_come w [] [] → Stands w every halves closed t so_far →
      so_far ++ out ≡ written_segments every halves (closed ++ t ∷ [])
  finished t so_far out e s =
      ap (λ (l : List ℕ). so_far ++ l) (as_bytes out ∙ ap concat e) ∙ sym (stands_now t so_far s)

  pub finished_count : (t : List Tagged) (so_far out : List ℕ) (n : ℕ) → as_frame out ≡ to_come w [] [] → n ≡ appended w + length (as_frame out) →
      Stands w every halves closed t so_far → n ≡ length (segment_frames every halves (closed ++ t ∷ []))
  finished_count t so_far out n e f s =
      f ∙ ap (λ (m : ℕ). m + length (as_frame out)) s.count ∙ ap (λ (l : List (List ℕ)). length s.done + length l) e
      ∙ sym (length-append s.done (to_come w [] [])) ∙ ap length (sym (frames_now t so_far s))
