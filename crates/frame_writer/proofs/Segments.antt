-- Closed segments, and then others.
use Rattle.std.proofs.Common.{◌≡◌, ℕ, zero, suc, ◌+◌, List, [], ◌∷◌, ◌++◌, refl, sym, ◌∙◌, ap, Option, append_assoc, length}
use Rattle.frame_writer.specs.Written.{Tagged, Later, none_later, filled, frame_bytes, frames_by, known, segments_then}
use Rattle.frame_writer.proofs.Frames.{by_nothing, by_some, segments_known}

-- where frames leave off: some frames, and then the later ones from a number and an ID on
pub record LeavesOff (every halves : ℕ) (f : Later → List (List ℕ)) : Type 0 where
  pub frames : List (List ℕ)
  pub number : ℕ
  pub id : Option ℕ
  pub then : (later : Later) → f later ≡ frames ++ later number id

module _ (every halves : ℕ) where
  none_left : (n : ℕ) (c : Option ℕ) (t : List Tagged) (later : Later) → frames_by every halves later zero n c t ≡ later n c
  unfolding frames_by
  none_left n c t later = refl

  pub frames_leave : (most n : ℕ) (c : Option ℕ) (t : List Tagged) → LeavesOff every halves (λ later. frames_by every halves later most n c t)
  frames_leave most n c [] = record { frames = []; number = n; id = c; then = λ later. by_nothing every halves later most n c }
  frames_leave zero n c (x ∷ t) = record { frames = []; number = n; id = c; then = λ later. none_left n c (x ∷ t) later }
  frames_leave (suc most) n c (x ∷ t) =
      let f = filled 7 (known every n c) (x ∷ t) in
      let head = frame_bytes every halves n f.pairs f.end.even f.end.aux in
      let more = frames_leave most (n + 1) f.end.id f.end.rest in
      record {
        frames = head ∷ more.frames;
        number = more.number;
        id = more.id;
        then = λ later. (by_some every halves later most n c x t ∙ ap (λ (l : List (List ℕ)). head ∷ l) (more.then later));
      }

  pub segments_leave : (closed : List (List Tagged)) (n : ℕ) (c : Option ℕ) → LeavesOff every halves (λ later. segments_then every halves later closed n c)
  segments_leave [] n c = record { frames = []; number = n; id = c; then = λ later. refl }
  segments_leave (t ∷ closed) n c =
      let one = frames_leave (length t) n c t in
      let more = segments_leave closed one.number one.id in
      record {
        frames = one.frames ++ more.frames;
        number = more.number;
        id = more.id;
        then = λ later. (one.then (λ n c. segments_then every halves later closed n c) ∙ ap (λ (l : List (List ℕ)). one.frames ++ l) (more.then later)
            ∙ sym (append_assoc one.frames more.frames (later more.number more.id)));
      }

  -- segments after others are the later ones
  pub segments_append : (later : Later) (closed more : List (List Tagged)) (n : ℕ) (c : Option ℕ) →
      segments_then every halves later (closed ++ more) n c ≡ segments_then every halves (λ n c. segments_then every halves later more n c) closed n c
  segments_append later [] more n c = refl
  segments_append later (t ∷ closed) more n c =
      let one = frames_leave (length t) n c t in
      one.then (λ n c. segments_then every halves later (closed ++ more) n c)
      ∙ ap (λ (l : List (List ℕ)). one.frames ++ l) (segments_append later closed more one.number one.id)
      ∙ sym (one.then (λ n c. segments_then every halves (λ n c. segments_then every halves later more n c) closed n c))

  -- the later segments of a writer go by what it knows
  pub later_known : (segments : List (List Tagged)) (n : ℕ) (c : Option ℕ) →
      segments_then every halves none_later segments n c ≡ segments_then every halves none_later segments n (known every n c)
  later_known segments n c = segments_known every halves none_later (λ n c. refl) segments n c
